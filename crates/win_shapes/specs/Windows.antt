-- The windows as formulas, at one place. Definitions only.
--   Hann 0.5 − 0.5 cos x,  Hamming 0.54 − 0.46 cos x,  Blackman 0.42 − 0.5 cos x + 0.08 cos 2x,
--   Blackman-Harris 0.35875 − 0.48829 cos x + 0.14128 cos 2x − 0.01168 cos 3x,  with x = 2π p/d
--   a sum of cosines with numbers of its own: c0 − c1 cos x + c2 cos 2x − c3 cos 3x + c4 cos 4x
--   Kaiser I0(beta √(1 − t²)) / I0(beta),  with t = 2 p/d − 1
use Rattle.std.specs.Prelude.{cond, Float}
use Rattle.std.specs.Float.Ieee.{lt}
use Rattle.laws.specs.Binary64.{◌⊕◌, ◌⊖◌, ◌⊗◌, ◌⊘◌, whole, fraction, pi}
use Rattle.math_sqrt.specs.Sqrt.{sqrt_of}
use Rattle.math_trig.specs.Trig.{cos_of}
use Rattle.math_bessel.specs.Series.{series_of}
use Rattle.win_shapes.specs.declared.cosines.Cosines.{Cosines}

-- ---- cosines, of the angle x
unfoldable pub angle : Float → Float → Float
angle p d = whole 2 ⊗ pi ⊗ p ⊘ d

unfoldable pub hann_at : Float → Float
hann_at x = fraction 1 2 ⊖ fraction 1 2 ⊗ cos_of x

unfoldable pub hamming_at : Float → Float
hamming_at x = fraction 54 100 ⊖ fraction 46 100 ⊗ cos_of x

unfoldable pub blackman_at : Float → Float
blackman_at x = fraction 42 100 ⊖ fraction 1 2 ⊗ cos_of x ⊕ fraction 8 100 ⊗ cos_of (whole 2 ⊗ x)

unfoldable pub harris_at : Float → Float
harris_at x = fraction 35875 100000 ⊖ fraction 48829 100000 ⊗ cos_of x ⊕ fraction 14128 100000 ⊗ cos_of (whole 2 ⊗ x) ⊖ fraction 1168 100000 ⊗ cos_of (whole 3 ⊗ x)

unfoldable pub cosines_at : Cosines → Float → Float
cosines_at c x = c.c0 ⊖ c.c1 ⊗ cos_of x ⊕ c.c2 ⊗ cos_of (whole 2 ⊗ x) ⊖ c.c3 ⊗ cos_of (whole 3 ⊗ x) ⊕ c.c4 ⊗ cos_of (whole 4 ⊗ x)

-- ---- Kaiser's, i0 being the series at beta: its radicand, what its series is taken at, and its value
-- x, and 0 where it is below 0 or NaN
unfoldable pub not_below0 : Float → Float
not_below0 x = cond (lt (whole 0) x) x (whole 0)

unfoldable pub kaiser_radicand : Float → Float → Float
unfolding not_below0
kaiser_radicand p d = let t = whole 2 ⊗ p ⊘ d ⊖ whole 1 in not_below0 (whole 1 ⊖ t ⊗ t)

abbrev pub kaiser_argument : Float → Float → Float
kaiser_argument beta radicand = beta ⊗ sqrt_of radicand

abbrev pub kaiser_value : Float → Float → Float
kaiser_value i0 x = (series_of x).sum ⊘ i0

unfoldable pub kaiser_at : Float → Float → Float → Float → Float
unfolding kaiser_radicand
kaiser_at beta i0 p d = kaiser_value i0 (kaiser_argument beta (kaiser_radicand p d))
