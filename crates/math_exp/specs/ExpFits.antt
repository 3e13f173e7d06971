-- What the exponential gives is an f64. Assumes nothing.
use Rattle.std.specs.Prelude.{T, Float}
use Rattle.std.specs.Float.{binary64}
use Rattle.std.specs.Float.Ieee.{neg, lt, le, fits}
use Rattle.std.specs.Float.Ieee.Fits.{cond-fits, mul-fits, of_int-fits, nan-fits}
use Rattle.laws.specs.Binary64.{whole}
use Rattle.laws.specs.Floor.{floor_z}
use Rattle.math_exp.specs.Exp.{doublings, rest, exp_series, two_to, exp_of}

pub exp_fits : (x : Float) → T (fits binary64 (exp_of x))
unfolding exp_of
exp_fits x = cond-fits binary64 (lt x (neg (whole 700))) _ _ (of_int-fits binary64 _) (cond-fits binary64 (le x (whole 0)) _ _ (mul-fits binary64 (exp_series (rest x)) (two_to (floor_z (doublings x)))) (nan-fits binary64))
