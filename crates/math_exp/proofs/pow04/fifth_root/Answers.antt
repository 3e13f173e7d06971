-- `math_exp::pow04::fifth_root` meets its contract. The loop's invariant: the steps that are left lead from here to
-- where all of them lead from 4. Assumes nothing.
use Rattle.std.proofs.Common.{sym, refl, ◌∙◌, arith}
use lib.Ieee.{of_int, of_bits}
use Rattle.math_exp.specs.Pow04.{step}
use Rattle.math_exp.proofs.Pow04Laws.{none_left, not_smaller, smaller}
use Rattle.math_exp.proofs.pow04.fifth_root.Goals as goal

pub loop-init : goal.loop-init
unfolding of_int of_bits
loop-init c = refl

pub loop-preserved : goal.loop-preserved
unfolding step of_int of_bits
loop-preserved c = smaller c.loop.counter 100 c.args.w c.loop.y (omega arith) c.if-not-next-y.false ∙ c.loop.invariant

pub returns-after-loop : goal.returns-after-loop
returns-after-loop c = sym (none_left c.loop.counter 100 _ _ c.loop-test.false) ∙ c.loop.invariant

pub returns-then-not-next-y : goal.returns-then-not-next-y
unfolding step of_int of_bits
returns-then-not-next-y c = sym (not_smaller _ c.args.w c.loop.y c.if-not-next-y.true) ∙ c.loop.invariant
