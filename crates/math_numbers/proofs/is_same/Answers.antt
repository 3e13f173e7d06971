-- `math_numbers::is_same` meets its contract: what equals something is no NaN, and any other number is known by its
-- pattern. Assumes nothing.
use Rattle.std.proofs.Common.{T, sym, ap, ◌∙◌, subst, eqb-true, arith}
use Rattle.std.proofs.lemmas.Grind.{common_steps}
use Rattle.std.proofs.lemmas.Float.{le_right, le_of_eq, T_from_true}
use lib.Ieee.{binary64, of_bits, to_bits}
use lib.Ieee.Bits.{of_bits-to_bits}
use Rattle.math_numbers.specs.Numbers.{same}
use Rattle.math_numbers.proofs.is_same.Goals as goal

pub float_to_bits-result-then-x-y : goal.float_to_bits-result-then-x-y
float_to_bits-result-then-x-y c = le_right c.args.x c.args.y (le_of_eq c.args.x c.args.y (T_from_true _ c.if-x-y.true))

pub returns-then-x-y-clause-answer : goal.returns-then-x-y-clause-answer
unfolding same
returns-then-x-y-clause-answer c = grind (arith, common_steps)

pub returns-then-x-y-clause-if_true : goal.returns-then-x-y-clause-if_true
returns-then-x-y-clause-if_true c =
    let x = c.args.x in
    let y = c.args.y in λ h. sym (of_bits-to_bits binary64 x (subst T (sym c.well_formed.0.1) tt)) ∙ ap (of_bits binary64) (eqb-true (to_bits binary64 x) (to_bits binary64 y) h) ∙ of_bits-to_bits binary64 y (subst T (sym c.well_formed.1.0.1) tt)

pub returns-else-x-y-clause-answer : goal.returns-else-x-y-clause-answer
unfolding same
returns-else-x-y-clause-answer c = grind (arith, common_steps)
