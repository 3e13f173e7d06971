-- The series settles at every finite x of 713 at most in size. Assumes nothing.
use Rattle.std.specs.Prelude.{◌≡◌, refl, Bool, true, false, T, Float}
use Rattle.std.proofs.Common.{sym, ◌∙◌, subst, arith}
use Rattle.std.specs.Float.{nan, inf, fin, binary64}
use Rattle.std.specs.Float.Ieee.{of_int, round, div, neg}
use Rattle.std.specs.Float.Ieee.Scale.{finite}
use Rattle.laws.specs.Binary64.{◌⊘◌, whole, fraction}
use Rattle.laws.specs.AtMost.{AtMost}
use Rattle.laws.specs.Cases.{either}
use Rattle.math_bessel.specs.Series.{series_at, series_of, settled}
use Rattle.laws.specs.Under.{natural, Under, div_under, under_or_over}
use Rattle.math_settling.specs.Steps.{whole_plain}
use Rattle.math_settling.specs.Between.{Settles, settles}
use Rattle.math_settling.specs.Points.{at_0, at_178, at_253, at_294, at_319, at_335, at_346, at_354, at_top}
use Rattle.math_settling.specs.Even.{settled_neg}

pub zero_under : (x : Float) → T (natural x) → Under (whole 0) x
unfolding of_int round
zero_under x p = record { lower = tt; upper = p; order = omega arith }

-- ---- halves up to 356.5
module _ (h : Float) (p : T (natural h)) where
  pub half_settles : Under h (fraction 713 2) → Settles h
  unfolding of_int round
  half_settles top =
      either (under_or_over h (whole 178) p tt) (λ q. settles (zero_under h p) q tt at_0 at_178) (λ a.
      either (under_or_over h (whole 253) p tt) (λ q. settles a q tt at_178 at_253) (λ a.
      either (under_or_over h (whole 294) p tt) (λ q. settles a q tt at_253 at_294) (λ a.
      either (under_or_over h (whole 319) p tt) (λ q. settles a q tt at_294 at_319) (λ a.
      either (under_or_over h (whole 335) p tt) (λ q. settles a q tt at_319 at_335) (λ a.
      either (under_or_over h (whole 346) p tt) (λ q. settles a q tt at_335 at_346) (λ a.
      either (under_or_over h (whole 354) p tt) (λ q. settles a q tt at_346 at_354) (λ a. settles a top tt at_354 at_top)))))))

is_true : (b : Bool) → T b → b ≡ true
is_true true t = refl
is_true false t = absurd t

of_half : (x : Float) → Settles (x ⊘ whole 2) → settled x ≡ true
unfolding series_of series_at
of_half x s = rw s.stopped (is_true _ s.sum_finite)

halved : whole 713 ⊘ whole 2 ≡ fraction 713 2
unfolding of_int round div
halved = refl

top_finite : T (finite (fraction 713 2))
unfolding of_int round
top_finite = tt

half_under : (x : Float) → Under x (whole 713) → Under (x ⊘ whole 2) (fraction 713 2)
half_under x u =
    subst (λ (z : Float). Under (x ⊘ whole 2) z) halved
    (div_under binary64 (whole 2) (whole_plain 2) u (subst (λ (z : Float). T (finite z)) (sym halved) top_finite))

pub under_settled : (x : Float) → Under x (whole 713) → settled x ≡ true
under_settled x u = let g = half_under x u in of_half x (half_settles (x ⊘ whole 2) g.lower g)

-- ---- the law
pub settled_to_713 : (x : Float) → AtMost x 713 1 → settled x ≡ true
unfolding of_int round neg
settled_to_713 nan h = absurd h
settled_to_713 (inf s) h = absurd h
settled_to_713 (fin false m e) h = under_settled (fin false m e) (record { lower = tt; upper = tt; order = h })
settled_to_713 (fin true m e) h = settled_neg (fin false m e) ∙ under_settled (fin false m e) (record { lower = tt; upper = tt; order = h })
