-- Taps that are the same, by what was seen of their places. Assumes nothing.
use Rattle.std.specs.Prelude.{◌≡◌, false, ℕ, ◌-◌, ◌<◌, Float}
use Rattle.std.proofs.Common.{sym, ap, ◌∙◌}
use Rattle.std.specs.Float.{binary64}
use Rattle.std.specs.Float.Ieee.{neg, eq}
use Rattle.laws.specs.Binary64.{◌⊗◌, ◌⊘◌, whole, pi}
use Rattle.laws.specs.Signs.{div_neg_both}
use Rattle.math_trig.specs.Trig.{sin_of}
use Rattle.fir_sinc.specs.declared.window.Window.{Window}
use Rattle.win_shapes.specs.Steps.{argument_of}
use Rattle.fir_sinc.specs.Windows.{window_at}
use Rattle.fir_sinc.specs.StepLaws.{place_at, value_at, curve_of, three_steps}
use Rattle.fir_sinc.specs.Taps.{sinc, offset_at, ideal_at, raw_at}

-- tap i of n has the sinc of its mirror image, which is one of the first `half`
abbrev pub IsMirrored : Float → ℕ → ℕ → ℕ → Type 0
IsMirrored fc n half i = (n - 1 - i < half) × (sinc (offset_at fc n i) ≡ sinc (offset_at fc n (n - 1 - i)))

-- the sinc is even where the sine is odd
pub same_sinc : (x y : Float) → eq x (whole 0) ≡ false → eq y (whole 0) ≡ false → pi ⊗ y ≡ neg (pi ⊗ x) → sin_of (pi ⊗ y) ≡ neg (sin_of (pi ⊗ x)) → sinc y ≡ sinc x
unfolding sinc
same_sinc x y a b e s =
    rw (a, b) (ap (λ (z : Float). sin_of (pi ⊗ y) ⊘ z) e ∙ ap (λ (z : Float). z ⊘ neg (pi ⊗ x)) s ∙ div_neg_both binary64 (sin_of (pi ⊗ x)) (pi ⊗ x))

same_window : (w : Window) (i0 : Float) (n i j : ℕ) → place_at w n i ≡ place_at w n j → window_at w i0 n i ≡ window_at w i0 n j
same_window w i0 n i j e = sym (three_steps w i0 n i) ∙ ap (λ (p : Float). value_at w i0 n (argument_of (curve_of w) p)) e ∙ three_steps w i0 n j

-- taps of one sinc
pub same_ideal : (fc : Float) (n i j : ℕ) → sinc (offset_at fc n i) ≡ sinc (offset_at fc n j) → ideal_at fc n i ≡ ideal_at fc n j
same_ideal fc n i j s = ap (λ (z : Float). whole 2 ⊗ fc ⊗ z) s

-- and of one place in the window
pub same_raw : (fc : Float) (w : Window) (i0 : Float) (n i j : ℕ) → place_at w n i ≡ place_at w n j → sinc (offset_at fc n i) ≡ sinc (offset_at fc n j) → raw_at fc w i0 n i ≡ raw_at fc w i0 n j
unfolding raw_at
same_raw fc w i0 n i j p s =
    ap (λ (z : Float). z ⊗ window_at w i0 n i) (same_ideal fc n i j s) ∙ ap (λ (z : Float). ideal_at fc n j ⊗ z) (same_window w i0 n i j p)
