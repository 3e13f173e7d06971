-- The taps of a windowed sinc with the cutoff fc, a fraction of the rate, before their division. Definitions only.
--   h[i] = 2 fc sinc(2 fc (i − m)) w[i],  m = (n − 1)/2,  sinc x = sin(π x)/(π x),  sinc 0 = 1
use Rattle.std.specs.Prelude.{ℕ, ◌-◌, cond, ltb, Float}
use Rattle.std.specs.Float.Ieee.{eq}
use Rattle.laws.specs.Binary64.{◌⊖◌, ◌⊗◌, ◌⊘◌, whole, pi}
use Rattle.math_trig.specs.Trig.{sin_of}
use Rattle.fir_sinc.specs.Windows.{window_at}
use Rattle.fir_sinc.specs.declared.window.Window.{Window}

unfoldable pub sinc : Float → Float
sinc x = cond (eq x (whole 0)) (whole 1) (sin_of (pi ⊗ x) ⊘ (pi ⊗ x))

-- the middle of n taps
unfoldable pub centre : ℕ → Float
centre n = whole (n - 1) ⊘ whole 2

-- where tap i lies in the sinc
abbrev pub offset_at : Float → ℕ → ℕ → Float
offset_at fc n i = whole 2 ⊗ fc ⊗ (whole i ⊖ centre n)

-- h[i] without its window
abbrev pub ideal_at : Float → ℕ → ℕ → Float
ideal_at fc n i = whole 2 ⊗ fc ⊗ sinc (offset_at fc n i)

-- h[i], i0 being the series at the window's beta
unfoldable pub raw_at : Float → Window → Float → ℕ → ℕ → Float
unfolding sinc centre
raw_at fc w i0 n i = ideal_at fc n i ⊗ window_at w i0 n i

-- the same for any numbers: 0 past the last tap, and for more taps than 2^24
unfoldable pub raw_within : Float → Window → Float → ℕ → ℕ → Float
unfolding raw_at
raw_within fc w i0 n i = cond (ltb 16777216 n) (whole 0) (cond (ltb i n) (raw_at fc w i0 n i) (whole 0))
