-- The root of m * 2 ^ 54, halved and rounded, and the test by which a whole number is seen to be it. These are laws of
-- whole numbers: how large such a root is, and that the test decides. Assumes nothing.
use Rattle.std.specs.Prelude.{◌≡◌, ℕ, zero, suc, ◌+◌, ◌*◌, ◌/◌, ◌^◌, ◌≤◌, ◌<◌}
use Rattle.std.proofs.Common.{inl, inr, lt_irrefl, arith}
use Rattle.laws.specs.Numbers.{lt_or_le}
use Rattle.math_sqrt.specs.WholeRoot.{Root, root_digits}

-- r is half the root q of m * 2 ^ 54, rounded up where q is odd
pub record HalfRoot (m r : ℕ) : Type 0 where
  pub q : ℕ
  pub root : Root q (m * 2 ^ 54)
  pub half : r ≡ (q + 1) / 2

pub half_most : (m r : ℕ) → 2 ^ 52 ≤ m → m < 2 ^ 54 → HalfRoot m r → r ≤ 2 ^ 53
half_most m r l h c = omega (arith, c.half, root_digits c.q m l h c.root)

-- the test: m * 2 ^ 52 is above r * r - r, and not above r * r + r. So the root of m * 2 ^ 54, which is twice that of m
-- * 2 ^ 52, is above 2 * r - 1 and below 2 * r + 1.
pub half_root : (m r : ℕ) → 0 < r → r * r < m * 2 ^ 52 + r → m * 2 ^ 52 ≤ r * r + r → HalfRoot m r
half_root m zero h l u = absurd (lt_irrefl 0 h)
half_root m (suc t) h l u = elim (lt_or_le (m * 2 ^ 52) (suc t * suc t)) [
  | inl g ↦ record { q = 2 * t + 1; root = record { below = omega arith; above = omega arith }; half = omega arith }
  | inr g ↦ record { q = 2 * t + 2; root = record { below = omega arith; above = omega arith }; half = omega arith }
]
