-- What writing the taps of a design needs: a list that keeps what they are worked out from, and room. Definitions only.
use Rattle.std.specs.Prelude.{ℕ, ◌≡◌, List, Float, Ok, Result}
use Rattle.verdict.specs.Outcome.{Outcome}
use Rattle.verdict.specs.declared.Refusal.{Refusal}
use Rattle.wire.specs.Writes.{Room}

-- of a design, where it is one: a list that keeps its first raw taps, and a buffer of len bytes for its taps
pub record Fits {D : Type 0} (keeps : D → List Float → Type 0) (outcome_of : Result D Refusal → Outcome) (d : Result D Refusal) (rs : List Float) (len : ℕ) : Type 0 where
  pub raws : (x : D) → d ≡ Ok x → keeps x rs
  pub room : Room len (outcome_of d)
