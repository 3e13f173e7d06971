-- The way of the code to a sample, in three steps, and that it leads to the sample. Assumes nothing.
use Rattle.std.specs.Prelude.{◌≡◌, ℕ, cond, ◌==◌, refl, Float}
use Rattle.std.proofs.Common.{ap, ◌∙◌}
use Rattle.laws.specs.Binary64.{whole}
use Rattle.win_shapes.specs.Windows.{hann_at, harris_at, kaiser_value, kaiser_at}
use Rattle.win_shapes.specs.Steps.{argument_of}
use Rattle.win_shapes.specs.Steps as Steps
use Rattle.win_shapes.specs.declared.curve.Curve.{Curve}
use Rattle.win_sampled.specs.Shapes.{norm_of, shape_at, sample_at}
use Rattle.win_sampled.specs.declared.shape.Shape.{Shape}
use Rattle.win_sampled.specs.declared.shape.Shape.TheVariants.{Hann, BlackmanHarris, Kaiser}

unfoldable pub curve_of : Shape → Curve
curve_of Hann = Curve.Cosines
curve_of BlackmanHarris = Curve.Cosines
curve_of (Kaiser beta) = Curve.Kaiser beta

-- the place of sample i for a divisor d
unfoldable pub place_at : Shape → ℕ → ℕ → Float
place_at shape d i = Steps.place_at (curve_of shape) (whole i) (whole d)

-- the sample by its argument, where the divisor isn't 0, and for any
unfoldable pub value_of : Shape → Float → Float → Float
value_of Hann i0 x = hann_at x
value_of BlackmanHarris i0 x = harris_at x
value_of (Kaiser beta) i0 x = kaiser_value i0 x

unfoldable pub value_at : Shape → Float → ℕ → Float → Float
value_at shape i0 d x = cond (d == 0) (whole 1) (value_of shape i0 x)

pub norm_is : (shape : Shape) → Steps.norm_of (curve_of shape) ≡ norm_of shape
unfolding Steps.norm_of curve_of norm_of
norm_is Hann = refl
norm_is BlackmanHarris = refl
norm_is (Kaiser beta) = refl

shaped : (shape : Shape) (i0 : Float) (d i : ℕ) → value_of shape i0 (argument_of (curve_of shape) (place_at shape d i)) ≡ shape_at shape i0 (whole i) (whole d)
unfolding shape_at curve_of place_at Steps.place_at argument_of value_of kaiser_at
shaped Hann i0 d i = refl
shaped BlackmanHarris i0 d i = refl
shaped (Kaiser beta) i0 d i = refl

pub three_steps : (shape : Shape) (i0 : Float) (d i : ℕ) → value_at shape i0 d (argument_of (curve_of shape) (place_at shape d i)) ≡ sample_at shape i0 d i
unfolding sample_at value_at
three_steps shape i0 d i = ap (λ (x : Float). cond (d == 0) (whole 1) x) (shaped shape i0 d i)

-- a sample by what each step gave
pub in_steps : (shape : Shape) (i0 : Float) (d i : ℕ) {k : Curve} {p x v : Float} → k ≡ curve_of shape → p ≡ place_at shape d i → x ≡ argument_of k p → v ≡ value_at shape i0 d x → v ≡ sample_at shape i0 d i
in_steps shape i0 d i {k} {p} a b c e =
    let f = c ∙ ap (λ (z : Curve). argument_of z p) a ∙ ap (λ (q : Float). argument_of (curve_of shape) q) b in
    e ∙ ap (λ (z : Float). value_at shape i0 d z) f ∙ three_steps shape i0 d i
