-- A design has as many taps as were asked for, where it is one. Assumes nothing.
use Rattle.std.specs.Prelude.{◌≡◌, ℕ, Bool, true, false, cond, ◌==◌, ◌≢◌, refl}
use Rattle.std.proofs.Common.{sym, ap, ◌∙◌, eqb-true}
use Rattle.verdict.specs.Outcome.{Outcome}

abbrev pub Counted : ℕ → Outcome → Type 0
Counted n (Outcome.Designed m sum tap) = m ≡ n
Counted n (Outcome.Refused why) = Unit {0}

-- one of two answers, the first where two counts are equal
pub where_equal : {D : Type 0} (of : D → Outcome) (n : ℕ) (x y : D) (a c : ℕ) → (a ≡ c → Counted n (of x)) → Counted n (of y) → Counted n (of (cond (a == c) x y))
where_equal of n x y a c p q = go (a == c) (eqb-true a c)
  where
    go : (b : Bool) → (b ≡ true → a ≡ c) → Counted n (of (cond b x y))
    go true e = p (e refl)
    go false e = q

-- an answer that stands where its count is that of a buffer: where it is the design d, it was so without the buffer,
-- and d has as many taps as that has elements
pub fitted : {D R : Type 0} (ready : D → R) (size : D → ℕ) (refusal : R) (len : ℕ) (g d : D) → ((x y : D) → ready x ≡ ready y → x ≡ y) → (refusal ≢ ready d) → cond (size g == len) (ready g) refusal ≡ ready d → (ready g ≡ ready d) × (size d ≡ len)
fitted ready size refusal len g d same never e = go (size g == len) (eqb-true (size g) len) e
  where
    go : (b : Bool) → (b ≡ true → size g ≡ len) → cond b (ready g) refusal ≡ ready d → (ready g ≡ ready d) × (size d ≡ len)
    go true k e = (e, ap size (sym (same g d e)) ∙ k refl)
    go false k e = absurd (never e)
