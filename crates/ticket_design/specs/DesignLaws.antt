-- A count that is tested between a buffer's length and its design. Assumes nothing.
use Rattle.std.specs.Prelude.{◌≡◌, refl, Bool, true, false, cond, ◌&&◌, not, ℕ, ◌/◌, ◌%◌, eqb}
use Rattle.verdict.specs.declared.Refusal.TheVariants as Refusal
use Rattle.verdict.specs.Outcome.{Outcome}
use Rattle.wire.specs.Writes.{whole_taps}
use Rattle.ticket_design.specs.Design.{where_counted}

module _ (count len : ℕ) (o : Outcome) where
  pub other_count : (eqb (len % 8) 0 && not (eqb count (len / 8))) ≡ true → whole_taps len (where_counted count (len / 8) o) ≡ Outcome.Refused (Refusal.Length count (len / 8))
  other_count h = go (eqb (len % 8) 0) (eqb count (len / 8)) h _
    where
      go : (a b : Bool) → (a && not b) ≡ true → (p : Outcome) → cond a (cond b o (Outcome.Refused (Refusal.Length count (len / 8)))) p ≡ Outcome.Refused (Refusal.Length count (len / 8))
      go true false h p = refl
      go true true h p = cc
      go false b h p = cc

  pub same_count : (eqb (len % 8) 0 && not (eqb count (len / 8))) ≡ false → whole_taps len o ≡ whole_taps len (where_counted count (len / 8) o)
  same_count h = go (eqb (len % 8) 0) (eqb count (len / 8)) h _
    where
      go : (a b : Bool) → (a && not b) ≡ false → (p : Outcome) → cond a o p ≡ cond a (cond b o (Outcome.Refused (Refusal.Length count (len / 8)))) p
      go true true h p = refl
      go true false h p = cc
      go false b h p = refl
