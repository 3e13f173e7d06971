-- What demand 3 says of a list of taps, stated over whole multiples of 2^-1074 with all denominators multiplied out.
-- Definitions only.
--   T is the whole number that a tap is of 2^-1074, so that 1 is 2^1074 of them; ΣT and Σ|T| are exact, n is how many
--   taps
--   tap total:  2^52 · |ΣT − 2^1074| ≤ n · (2^1074 + Σ|T|)                          that is |Σt − 1| ≤ n (1 + A)/2^52,
--   A = Σ|t|
--   Q15 total:  2^37 · 2^1074 · |Σq − 32768| ≤ n · (2^36 · 2^1074 + 2^1074 + Σ|T|)   that is |Σq − 32768| ≤ n (1/2 + (1
--   + A)/2^37)
use Rattle.std.specs.Prelude.{ℕ, ◌+◌, ◌*◌, ◌^◌, ◌≤◌, Bool, List, pos, nat_abs, ◌-ℤ◌, length, Float}
use Rattle.std.specs.Float.{binary64}
use Rattle.laws.specs.Floor.{floor_z}
use Rattle.laws.specs.SumError.{sum_of}
use Rattle.laws.specs.Totals.{units, sum_z}
use Rattle.fmt_q15.specs.Q15.{moved, in16, q15_of}

-- Σ|T|
abbrev pub sizes : List Float → ℕ
sizes ts = sum_of (λ t. nat_abs (units binary64 t)) ts

abbrev pub TapTotal : List Float → Type 0
TapTotal ts = 2 ^ 52 * nat_abs (sum_z (units binary64) ts -ℤ pos (2 ^ 1074)) ≤ length ts * (2 ^ 1074 + sizes ts)

-- "the Q15 sum" is the exact sum of the whole numbers that `q15_tap` makes of the taps, q15_of by its contract
abbrev pub Q15Total : List Float → Type 0
Q15Total ts = 2 ^ 37 * 2 ^ 1074 * nat_abs (sum_z q15_of ts -ℤ pos 32768) ≤ length ts * (2 ^ 36 * 2 ^ 1074 + 2 ^ 1074 + sizes ts)

-- a tap does not "saturate": floor(32768 t + 0.5) lies in −32768 to 32767
abbrev pub unsaturated : Float → Bool
unsaturated t = in16 (floor_z (moved t))
