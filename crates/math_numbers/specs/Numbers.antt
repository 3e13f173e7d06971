-- What is asked of rates, transitions and factors, and whether two values are one. Definitions only.
use Rattle.std.specs.Prelude.{Bool, ◌&&◌, ◌==◌, to_bits, Float}
use Rattle.std.specs.Float.{binary64}
use Rattle.std.specs.Float.Ieee.{lt, eq}
use Rattle.std.specs.Float.Ieee.Scale.{finite}
use Rattle.laws.specs.Binary64.{whole}

-- finite and above 0
unfoldable pub positive : Float → Bool
positive x = finite x && lt (whole 0) x

-- one and the same: zeros of unlike signs are not, and a NaN isn't even itself
unfoldable pub same : Float → Float → Bool
same x y = eq x y && to_bits binary64 x == to_bits binary64 y
