-- The way of the code to a window at a tap, in three steps, and that it leads to the window; and with the ideal tap to
-- the raw one. Assumes nothing.
use Rattle.std.specs.Prelude.{◌≡◌, refl, Bool, cond, ℕ, ◌-◌, eqb, Float}
use Rattle.std.proofs.Common.{sym, ap, ◌∙◌, ne_eqb}
use Rattle.laws.specs.Binary64.{◌⊗◌, whole}
use Rattle.fir_sinc.specs.declared.window.Window.{Window}
use Rattle.fir_sinc.specs.declared.window.Window.TheVariants.{Hann, Hamming, Blackman, Kaiser, Cosines}
use Rattle.fir_sinc.specs.Taps.{ideal_at, raw_at}
use Rattle.win_shapes.specs.Windows.{hann_at, hamming_at, blackman_at, cosines_at, kaiser_value, kaiser_at}
use Rattle.win_shapes.specs.Steps.{argument_of}
use Rattle.win_shapes.specs.Steps as Steps
use Rattle.win_shapes.specs.declared.curve.Curve.{Curve}
use Rattle.fir_sinc.specs.Windows.{norm_of, shape_at, window_at}

unfoldable pub curve_of : Window → Curve
curve_of Hann = Curve.Cosines
curve_of Hamming = Curve.Cosines
curve_of Blackman = Curve.Cosines
curve_of (Kaiser beta) = Curve.Kaiser beta
curve_of (Cosines c) = Curve.Cosines

-- the place of tap i of n
unfoldable pub place_at : Window → ℕ → ℕ → Float
place_at w n i = Steps.place_at (curve_of w) (whole i) (whole (n - 1))

-- the window by its argument, of more taps than one, and of any number
unfoldable pub value_of : Window → Float → Float → Float
value_of Hann i0 x = hann_at x
value_of Hamming i0 x = hamming_at x
value_of Blackman i0 x = blackman_at x
value_of (Kaiser beta) i0 x = kaiser_value i0 x
value_of (Cosines c) i0 x = cosines_at c x

unfoldable pub value_at : Window → Float → ℕ → Float → Float
value_at w i0 n x = cond (eqb n 1) (whole 1) (value_of w i0 x)

pub norm_is : (w : Window) → Steps.norm_of (curve_of w) ≡ norm_of w
unfolding Steps.norm_of curve_of norm_of
norm_is Hann = refl
norm_is Hamming = refl
norm_is Blackman = refl
norm_is (Kaiser beta) = refl
norm_is (Cosines c) = refl

shaped : (w : Window) (i0 : Float) (n i : ℕ) → value_of w i0 (argument_of (curve_of w) (place_at w n i)) ≡ shape_at w i0 (whole i) (whole (n - 1))
unfolding shape_at curve_of place_at Steps.place_at argument_of value_of kaiser_at
shaped Hann i0 n i = refl
shaped Hamming i0 n i = refl
shaped Blackman i0 n i = refl
shaped (Kaiser beta) i0 n i = refl
shaped (Cosines c) i0 n i = refl

pub three_steps : (w : Window) (i0 : Float) (n i : ℕ) → value_at w i0 n (argument_of (curve_of w) (place_at w n i)) ≡ window_at w i0 n i
unfolding window_at value_at
three_steps w i0 n i = ap (λ (x : Float). cond (eqb n 1) (whole 1) x) (shaped w i0 n i)

-- the window by what each step gave
pub in_steps : (w : Window) (i0 : Float) (n i : ℕ) {k : Curve} {p x v : Float} → k ≡ curve_of w → p ≡ place_at w n i → x ≡ argument_of k p → v ≡ value_at w i0 n x → v ≡ window_at w i0 n i
in_steps w i0 n i {k} {p} a b c d =
    let e = c ∙ ap (λ (z : Curve). argument_of z p) a ∙ ap (λ (q : Float). argument_of (curve_of w) q) b in
    d ∙ ap (λ (z : Float). value_at w i0 n z) e ∙ three_steps w i0 n i

-- the window at tap i by its argument, of more taps than one
pub windowed : (w : Window) (i0 : Float) (n i : ℕ) {x v : Float} → (n ≡ 1 → ⊥) → x ≡ argument_of (curve_of w) (place_at w n i) → v ≡ value_of w i0 x → v ≡ window_at w i0 n i
unfolding value_at
windowed w i0 n i many e f = f ∙ ap (λ (x : Float). value_of w i0 x) e ∙ ap (λ (b : Bool). cond b (whole 1) (value_of w i0 (argument_of (curve_of w) (place_at w n i)))) (sym (ne_eqb n 1 many)) ∙ three_steps w i0 n i

-- a raw tap by its two factors
pub raw_is : (fc : Float) (w : Window) (i0 : Float) (n i : ℕ) {a v : Float} → a ≡ ideal_at fc n i → v ≡ window_at w i0 n i → a ⊗ v ≡ raw_at fc w i0 n i
unfolding raw_at
raw_is fc w i0 n i e f = rw (e, f) refl
