-- The way of the code to a window, for a loop that works out the arguments of the next elements before the values of
-- these: what an element's place gives, and what its cosines or its series are taken at.
use Rattle.std.specs.Prelude.{Float}
use Rattle.laws.specs.Binary64.{whole}
use Rattle.math_bessel.specs.Series.{series_of}
use Rattle.win_shapes.specs.Windows.{angle, kaiser_radicand, kaiser_argument}
use Rattle.win_shapes.specs.declared.curve.Curve.{Curve}
use Rattle.win_shapes.specs.declared.curve.Curve.TheVariants.{Cosines, Kaiser}

-- the series at beta, by which Kaiser's window is divided; 1 for the others
unfoldable pub norm_of : Curve → Float
norm_of Cosines = whole 1
norm_of (Kaiser beta) = (series_of beta).sum

-- the angle, or Kaiser's radicand
unfoldable pub place_at : Curve → Float → Float → Float
unfolding angle kaiser_radicand
place_at Cosines p d = angle p d
place_at (Kaiser beta) p d = kaiser_radicand p d

unfoldable pub argument_of : Curve → Float → Float
argument_of Cosines place = place
argument_of (Kaiser beta) place = kaiser_argument beta place
