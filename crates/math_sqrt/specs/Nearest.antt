-- The pattern that is made from the whole-number root stands for the nearest value.
use Rattle.std.specs.Prelude.{◌≡◌, refl, ℕ, ◌+◌, ◌-◌, ◌*◌, ◌/◌, ◌%◌, ◌^◌, ◌≤◌, ◌<◌, T, Float}
use Rattle.std.proofs.Common.{ap, ◌∙◌, subst, arith, pow_pos}
use Rattle.std.specs.Float.{binary64}
use Rattle.std.specs.Float.Ieee.{of_bits, fits}
use Rattle.laws.specs.Units.{mag, digits}
use Rattle.math_sqrt.specs.Sqrt.{NearestRoot}
use Rattle.math_sqrt.specs.WholeRoot.{Root, root_digits}
use Rattle.math_sqrt.specs.Middles.{Step, step, over_mid, under_mid, four_at, square_pow}
use Rattle.math_sqrt.specs.Patterns.{Value, mag_of, bits_value, made_mag}

-- r is the pattern of the root of the value of X units, as `root_pattern` makes it: m and h stand for that value, and q
-- is the whole part of the root of m * 2 ^ 54
pub record RootBits (X r : ℕ) : Type 0 where
  pub m : ℕ
  pub h : ℕ
  pub q : ℕ
  pub scaled : m * 2 ^ (2 * h) ≡ X * 2 ^ 1024
  pub least : 2 ^ 52 ≤ m
  pub most : m < 2 ^ 54
  pub root : Root q (m * 2 ^ 54)
  pub above : 1 ≤ h
  pub below : h ≤ 1534
  pub made : r ≡ (h - 1) * 2 ^ 52 + (q + 1) / 2

module _ (X r : ℕ) (c : RootBits X r) where
  -- the root is half * unit
  abbrev half : ℕ
  half = (c.q + 1) / 2

  abbrev unit : ℕ
  unit = 2 ^ (c.h - 1)

  range : (2 ^ 53 ≤ c.q) × (c.q < 2 ^ 54)
  range = root_digits c.q c.m c.least c.most c.root

  pub pattern_lt : r < 2047 * 2 ^ 52
  pattern_lt = omega (arith, range)

  pub result : Value (of_bits binary64 r) (half * unit)
  result =
      subst (λ (w : ℕ). Value (of_bits binary64 r) w)
      (ap (λ (z : ℕ). mag_of (z / 2 ^ 52) (z % 2 ^ 52)) c.made ∙ made_mag (c.h - 1) half (omega (arith, range)) (omega (arith, range)))
      (bits_value r pattern_lt)

  four : 4 * (X * 2 ^ 1074) ≡ 2 * (c.m * 2 ^ 53) * (unit * unit)
  four = four_at c.m (2 ^ (2 * c.h)) X (2 ^ 1024) (2 ^ 1074) unit (square_pow c.h c.above) c.scaled refl

  steps : (y : Float) → T (fits binary64 y) → Step (mag binary64 y) unit
  steps y F = let d = digits binary64 y F in step d.0 d.1 (c.h - 1) (mag binary64 y) d.2 d.3

  pub nearest : (x : Float) → mag binary64 x ≡ X → NearestRoot binary64 x (of_bits binary64 r)
  nearest x e = record {
    over = λ y F l. rw (e, result.units, four)
        (over_mid half c.q unit (2 * (c.m * 2 ^ 53)) (mag binary64 y) (pow_pos (c.h - 1))
        (omega (arith, range)) (omega arith) (omega (arith, c.root.above)) (rw result.units at l) (steps y F));
    under = λ y F l. rw (e, result.units, four)
        (under_mid half c.q unit (c.m * 2 ^ 53) (mag binary64 y) (pow_pos (c.h - 1))
        (omega arith) range.0 (omega (arith, c.root.below)) (rw result.units at l) (steps y F));
  }
