-- Numbers that sum to 1, within 2 ^ -40 and exactly: as whole multiples of the smallest f64, of which 2 ^ 1074 are 1.
-- Definitions only.
use Rattle.std.specs.Prelude.{◌^◌, Bool, true, ◌&&◌, List, [], ◌∷◌, pos, ◌-ℤ◌, nat_le, unsigned_abs, Float}
use Rattle.std.specs.Float.{binary64}
use Rattle.std.specs.Float.Ieee.Scale.{finite}
use Rattle.laws.specs.Totals.{units, sum_z}
use Rattle.laws.specs.Units.{mag}

-- finite, and 1 at most in size
unfoldable pub within : Float → Bool
within x = finite x && nat_le (mag binary64 x) (2 ^ 1074)

unfoldable pub all_within : List Float → Bool
all_within [] = true
all_within (x ∷ xs) = within x && all_within xs

-- |Σ c − 1| ≤ 2 ^ -40: the exact sum is 2 ^ 1034 multiples at most from 2 ^ 1074
unfoldable pub near_one : List Float → Bool
near_one cs = nat_le (unsigned_abs (sum_z (units binary64) cs -ℤ pos (2 ^ 1074))) (2 ^ 1034)

abbrev pub five : Float → Float → Float → Float → Float → List Float
five a b c d e = a ∷ b ∷ c ∷ d ∷ e ∷ []
