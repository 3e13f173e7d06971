-- The windows by their codes. Definitions only.
use Rattle.std.specs.Prelude.{ℕ, zero, suc, Bool, true, false, Float, None, Option, Some}
use Rattle.laws.specs.Binary64.{whole}
use Rattle.fir_sinc.specs.declared.window.Window.{Window}
use Rattle.fir_sinc.specs.declared.window.Window.TheVariants.{Hann, Hamming, Blackman, Kaiser, Cosines}

-- 0, 1, 2 and 3; only Kaiser's window takes beta
unfoldable pub window_of : ℕ → Float → Option Window
window_of zero beta = Some Hann
window_of (suc zero) beta = Some Hamming
window_of (suc (suc zero)) beta = Some Blackman
window_of (suc (suc (suc zero))) beta = Some (Kaiser beta)
window_of (suc (suc (suc (suc code)))) beta = None

-- whether a window has a code: a loaded one has none
abbrev pub has_code : Window → Bool
has_code Hann = true
has_code Hamming = true
has_code Blackman = true
has_code (Kaiser beta) = true
has_code (Cosines c) = false

-- a window's code; 4, which is no window's, where it has none
unfoldable pub code_of : Window → ℕ
code_of Hann = 0
code_of Hamming = 1
code_of Blackman = 2
code_of (Kaiser beta) = 3
code_of (Cosines c) = 4

-- and its beta, 0 where it has none
unfoldable pub shape_of : Window → Float
shape_of Hann = whole 0
shape_of Hamming = whole 0
shape_of Blackman = whole 0
shape_of (Kaiser beta) = beta
shape_of (Cosines c) = whole 0
