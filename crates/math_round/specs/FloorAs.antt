-- A floor by the whole number that it is: a whole number of some sign, rounded. Assumes nothing.
use Rattle.std.proofs.Common.{sym, subst}
use Rattle.std.specs.Prelude.{ℕ, ◌*◌, ◌/◌, Bool, true, false, ℤ, pos, neg_ℤ, Float}
use Rattle.std.specs.Float.{fin, binary64}
use Rattle.std.specs.Float.Ieee.{up, down, round}
use Rattle.laws.specs.Floor.{floor_z, upward}
use Rattle.laws.specs.WholeValues.{signed}
use Rattle.math_round.specs.Whole.{as_float, floor_of}
use Rattle.math_round.specs.Laws.{abs_neg}

abbrev pub rounded : Bool → ℕ → Float
rounded s n = round binary64 s n 1

-- ---- what holds of every rounded whole number holds of a value's floor
pub floor_as : (P : Float → ℤ → Type 0) → ((s : Bool) (n : ℕ) → P (rounded s n) (signed s n)) → (s : Bool) (m : ℕ) (e : ℤ) → P (floor_of (fin s m e)) (floor_z (fin s m e))
unfolding floor_of as_float floor_z
floor_as P p false m e = p false (m * up e / down e)
floor_as P p true m e = let n = upward (m * up e) (down e) in subst (λ (k : ℕ). P (rounded true k) (neg_ℤ (pos n))) (sym (abs_neg n)) (p true n)
