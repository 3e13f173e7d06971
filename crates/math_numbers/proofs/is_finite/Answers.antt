-- `math_numbers::is_finite` meets its contract: std's word for it has the same cases. Assumes nothing.
use Rattle.std.proofs.Common.{◌≡◌, refl, ◌∙◌}
use Rattle.std.specs.Float.{float_is_finite}
use lib.Ieee.{Float, nan, inf, fin}
use lib.Ieee.Scale.{finite}
use Rattle.math_numbers.proofs.is_finite.Goals as goal

same_cases : (x : Float) → float_is_finite x ≡ finite x
unfolding float_is_finite
same_cases nan = refl
same_cases (inf s) = refl
same_cases (fin s m e) = refl

-- std tells an infinity by its sign, and the definition has one case for both:
-- so the cases are compared, and not the tests
pub returns : goal.returns
returns c = c.is_finite.ensures.value ∙ same_cases c.args.x
