-- What loading answers for other windows that are in use, and at the border of its tests. Each is one evaluation.
-- Assumes nothing.
use Rattle.std.specs.Prelude.{◌≡◌, refl, true, [], ◌∷◌, Err}
use Rattle.std.specs.Float.{nan, inf}
use Rattle.std.specs.Float.Ieee.{round, of_bits, of_int, neg}
use Rattle.laws.specs.Binary64.{b64, whole, fraction}
use Rattle.laws.specs.Totals.{units, sum_z}
use Rattle.laws.specs.Units.{mag}
use Rattle.math_unity.specs.Unity.{within, near_one}
use Rattle.verdict.specs.declared.Refusal.TheVariants.{Plain, Range}
use Rattle.win_cosines.specs.Load.{numbers_taken, load_of}
use Rattle.win_cosines.specs.Worked.{Taken}
use Rattle.verdict.specs.declared.Reason.TheVariants as Reason

-- ---- windows in use
-- Blackman and Harris's four, and Nuttall's
blackman_harris : Taken (fraction 35875 100000 ∷ fraction 48829 100000 ∷ fraction 14128 100000 ∷ fraction 1168 100000 ∷ [])
unfolding load_of numbers_taken within near_one sum_z units mag round
blackman_harris = refl

nuttall : Taken (fraction 355768 1000000 ∷ fraction 487396 1000000 ∷ fraction 144232 1000000 ∷ fraction 12604 1000000 ∷ [])
unfolding load_of numbers_taken within near_one sum_z units mag round
nuttall = refl

-- a flat top's five, as they are often printed, sum to 1 + 3 · 10 ^ -9
flat_top : load_of (fraction 215578950 1000000000 ∷ fraction 416631580 1000000000 ∷ fraction 277263158 1000000000 ∷ fraction 83578947 1000000000 ∷ fraction 6947368 1000000000 ∷ []) ≡ Err (Plain Reason.CoefficientSum)
unfolding load_of numbers_taken within near_one sum_z units mag round
flat_top = refl

-- ---- the border of 19: 1 + 2 ^ -40 is taken, and the smallest value more is not; and below 1
edge : Taken (b64 0x3FF0_0000_0000_0000 ∷ b64 0x3D70_0000_0000_0000 ∷ [])
unfolding load_of numbers_taken within near_one sum_z units mag of_bits
edge = refl

past : load_of (b64 0x3FF0_0000_0000_0000 ∷ b64 0x3D70_0000_0000_0000 ∷ b64 1 ∷ []) ≡ Err (Plain Reason.CoefficientSum)
unfolding load_of numbers_taken within near_one sum_z units mag of_bits
past = refl

edge_below : Taken (b64 0x3FF0_0000_0000_0000 ∷ b64 0xBD70_0000_0000_0000 ∷ [])
unfolding load_of numbers_taken within near_one sum_z units mag of_bits
edge_below = refl

past_below : load_of (b64 0x3FF0_0000_0000_0000 ∷ b64 0xBD70_0000_0000_0000 ∷ b64 0x8000_0000_0000_0001 ∷ []) ≡ Err (Plain Reason.CoefficientSum)
unfolding load_of numbers_taken within near_one sum_z units mag of_bits
past_below = refl

-- ---- the order: a count before a number, a number before the sum; the first of two numbers is told
none : load_of [] ≡ Err (Range Reason.CoefficientCount (whole 1) (whole 5) (whole 0))
unfolding load_of
none = refl

six : load_of (nan ∷ nan ∷ nan ∷ nan ∷ nan ∷ nan ∷ []) ≡ Err (Range Reason.CoefficientCount (whole 1) (whole 5) (whole 6))
unfolding load_of
six = refl

above_one : load_of (b64 0x3FF0_0000_0000_0001 ∷ inf true ∷ []) ≡ Err (Range Reason.Coefficient (neg (whole 1)) (whole 1) (b64 0x3FF0_0000_0000_0001))
unfolding load_of numbers_taken within mag of_bits
above_one = refl

a_nan : load_of (whole 1 ∷ whole 1 ∷ nan ∷ []) ≡ Err (Range Reason.Coefficient (neg (whole 1)) (whole 1) nan)
unfolding load_of numbers_taken within mag of_int round
a_nan = refl
