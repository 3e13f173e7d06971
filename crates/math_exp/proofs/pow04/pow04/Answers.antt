-- `math_exp::pow04::pow04` meets its contract: a zero, inside the range, outside it. Assumes nothing.
use Rattle.std.proofs.Common.{◌∙◌}
use lib.Ieee.{of_int, of_bits, div}
use Rattle.math_exp.proofs.Pow04Laws.{at_zero, inside, outside}
use Rattle.math_exp.proofs.pow04.pow04.Goals as goal
use Rattle.math_exp.proofs.pow04.pow04.Goals.{else-v-via-then-v+else-v-2, else-v-via-else-v}

pub returns-then-v-3 : goal.returns-then-v-3
unfolding of_int of_bits
returns-then-v-3 c = at_zero c.args.v c.if-v.true c.if-v-2.true c.if-v-3.true

pub returns-else-v-3 : goal.returns-else-v-3
unfolding of_int of_bits
returns-else-v-3 c = c.fifth_root.ensures ∙ inside c.args.v c.if-v.true c.if-v-2.true c.if-v-3.false

pub returns-else-v : goal.returns-else-v
unfolding of_int of_bits div
returns-else-v c =
    elim c.else-v.branch [
      | else-v-via-then-v+else-v-2 w ↦ outside c.args.v (rw (w.if-v.true, w.if-v-2.false))
      | else-v-via-else-v w ↦ outside c.args.v (rw w.if-v.false)
    ]
