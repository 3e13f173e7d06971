-- The way of the code to the test: the sizes of the numbers above 0 and of those below it, compared digit by digit.
-- Definitions only.
use Rattle.std.specs.Prelude.{ℕ, ◌+◌, ◌^◌, Bool, cond, ◌&&◌, List, Float}
use Rattle.std.specs.Float.Ieee.{lt, neg}
use Rattle.laws.specs.SumError.{sum_of}
use Rattle.laws.specs.Units.{nought}
use Rattle.math_unity.specs.Cut.{digit_of, rest_of}
use Rattle.math_unity.specs.Run.{each_of, run_of}

-- the size of what is above 0, and of what is below it
unfoldable pub pos_of : Float → Float
pos_of x = cond (lt nought x) x nought

unfoldable pub neg_of : Float → Float
neg_of x = cond (lt x nought) (neg x) nought

unfoldable pub run : ℕ → List Float → List Float → ℕ → ℕ → Bool
run k p n a b = run_of digit_of rest_of (2 ^ 50) k p n a b

-- p less n is 1 + 2 ^ -40 at most and 1 - 2 ^ -40 at least, after a first digit of each
unfoldable pub near_run : List Float → List Float → Bool
near_run p n =
    run 21 (each_of rest_of p) (each_of rest_of n) (sum_of digit_of p) (sum_of digit_of n + 2 ^ 50 + 2 ^ 10)
    && run 21 (each_of rest_of n) (each_of rest_of p) (sum_of digit_of n + 2 ^ 50) (sum_of digit_of p + 2 ^ 10)
