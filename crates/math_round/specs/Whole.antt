-- Floor, ceiling and absolute value of an f64. Definitions only.
use Rattle.std.specs.Prelude.{Bool, false, ℤ, unsigned_abs, Float}
use Rattle.std.specs.Float.{nan, inf, fin, binary64}
use Rattle.std.specs.Float.Ieee.{round}
use Rattle.laws.specs.Floor.{floor_z, ceil_z}

-- a whole number as an f64, with the sign s of the value that it came from, so that a zero has a sign too: z has that
-- sign or is 0
unfoldable pub as_float : Bool → ℤ → Float
as_float s z = round binary64 s (unsigned_abs z) 1

-- the greatest whole number that is not above x. A zero keeps its sign, and an infinity and a NaN stay.
unfoldable pub floor_of : Float → Float
floor_of nan = nan
floor_of (inf s) = inf s
floor_of (fin s m e) = as_float s (floor_z (fin s m e))

-- the least whole number that is not below x. The ceiling of -0.5 is -0.
unfoldable pub ceil_of : Float → Float
ceil_of nan = nan
ceil_of (inf s) = inf s
ceil_of (fin s m e) = as_float s (ceil_z (fin s m e))

-- x with its sign clear
unfoldable pub abs_of : Float → Float
abs_of nan = nan
abs_of (inf s) = inf false
abs_of (fin s m e) = fin false m e
