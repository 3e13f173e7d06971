-- The whole-number square root: what it is, that `whole_root` is it, and how many digits it has.
use Rattle.std.specs.Prelude.{Bool, true, false, not, cond, ℕ, zero, suc, ◌+◌, ◌*◌, ◌/◌, ◌^◌, ◌≤◌, ◌<◌, T, leb}
use Rattle.std.proofs.Common.{inl, inr, lt_of_lt_of_le, mul-le-mul, pow-suc, arith, leb→le}
use Rattle.std.proofs.Math.Dec.{nleb→lt}
use Rattle.std.specs.Float.Ieee.{size}
use Rattle.std.specs.Float.Ieee.Digits.{size-lt}
use Rattle.math_sqrt.specs.Sqrt.{root_by, whole_root}
use Rattle.laws.specs.Numbers.{lt_or_le}

-- q is the greatest whole number whose square is not above n
pub record Root (q n : ℕ) : Type 0 where
  pub below : q * q ≤ n
  pub above : n < (q + 1) * (q + 1)

-- twice the root of n / 4, or one more
root_next : (r n : ℕ) → Root r (n / 4) → Root (cond (leb ((2 * r + 1) * (2 * r + 1)) n) (2 * r + 1) (2 * r)) n
root_next r n R = go (leb s n) (leb→le s n) (nleb→lt s n)
  where
    s : ℕ
    s = (2 * r + 1) * (2 * r + 1)

    go : (v : Bool) → (T v → s ≤ n) → (T (not v) → n < s) → Root (cond v (2 * r + 1) (2 * r)) n
    go true a b = record { below = a tt; above = omega arith }
    go false a b = record { below = omega arith; above = b tt }

root_by_lem : (k n : ℕ) → n < 4 ^ k → Root (root_by k n) n
unfolding root_by
root_by_lem zero n h = record { below = omega arith; above = omega arith }
root_by_lem (suc k) n h = root_next (root_by k (n / 4)) n (root_by_lem k (n / 4) (omega (arith, pow-suc 4 k)))

two_four : (k : ℕ) → 2 ^ k ≤ 4 ^ k
two_four zero = omega arith
two_four (suc k) = omega (arith, two_four k, pow-suc 2 k, pow-suc 4 k)

pub whole_root_lem : (n : ℕ) → Root (whole_root n) n
unfolding whole_root
whole_root_lem n = root_by_lem (size n) n (lt_of_lt_of_le (size-lt n) (two_four (size n)))

-- where m * 2 ^ 54 has 107 or 108 digits, its root has 54
pub root_digits : (q m : ℕ) → 2 ^ 52 ≤ m → m < 2 ^ 54 → Root q (m * 2 ^ 54) → (2 ^ 53 ≤ q) × (q < 2 ^ 54)
root_digits q m l h r = (
  elim (lt_or_le q (2 ^ 53)) [ inl g ↦ absurd (omega (arith, mul-le-mul g g)) | inr g ↦ g ],
  elim (lt_or_le q (2 ^ 54)) [ inl g ↦ g | inr g ↦ absurd (omega (arith, mul-le-mul g g)) ],
)
