-- When a float is the stored answer. Assumes nothing.
use Rattle.std.specs.Prelude.{ℕ, Bool, cond, ◌==◌, is_nan, to_bits, Float}
use Rattle.std.specs.Float.{binary64}
use Rattle.std.specs.Float.Ieee.{nan_bits}

-- b is a pattern of x: any NaN pattern is one of the NaN
unfoldable pub agrees_of : Float → ℕ → Bool
agrees_of x b = cond (is_nan x) (nan_bits binary64 b) (to_bits binary64 x == b)
