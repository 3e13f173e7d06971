-- The symmetric windows of n taps, at tap i. Definitions only.
--   the formulas of `win_shapes/Windows` with p = i and d = n − 1; one tap has the window 1
use Rattle.std.specs.Prelude.{ℕ, ◌-◌, cond, eqb, Float}
use Rattle.laws.specs.Binary64.{whole}
use Rattle.math_bessel.specs.Series.{series_of}
use Rattle.win_shapes.specs.Windows.{angle, hann_at, hamming_at, blackman_at, cosines_at, kaiser_at}
use Rattle.fir_sinc.specs.declared.window.Window.{Window}
use Rattle.fir_sinc.specs.declared.window.Window.TheVariants.{Hann, Hamming, Blackman, Kaiser, Cosines}

-- the series at beta, by which Kaiser's window is divided; 1 for the others
unfoldable pub norm_of : Window → Float
norm_of Hann = whole 1
norm_of Hamming = whole 1
norm_of Blackman = whole 1
norm_of (Kaiser beta) = (series_of beta).sum
norm_of (Cosines c) = whole 1

-- two taps at least; i0 is the series at beta
unfoldable pub shape_at : Window → Float → Float → Float → Float
unfolding angle hann_at hamming_at blackman_at cosines_at kaiser_at
shape_at Hann i0 p d = hann_at (angle p d)
shape_at Hamming i0 p d = hamming_at (angle p d)
shape_at Blackman i0 p d = blackman_at (angle p d)
shape_at (Kaiser beta) i0 p d = kaiser_at beta i0 p d
shape_at (Cosines c) i0 p d = cosines_at c (angle p d)

unfoldable pub window_at : Window → Float → ℕ → ℕ → Float
unfolding shape_at
window_at w i0 n i = cond (eqb n 1) (whole 1) (shape_at w i0 (whole i) (whole (n - 1)))
