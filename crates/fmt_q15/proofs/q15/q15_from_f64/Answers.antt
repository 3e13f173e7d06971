-- `fmt_q15::q15::q15_from_f64` meets its contract. Assumes nothing.
use mathlib.Core.Path.{◌∙◌}
use lib.Ieee.{of_bits, of_int, round, neg, to_signed}
use lib.Ieee.Casts.{to_signed_in}
use mir.Syntax.{w16}
use mir.ValLaws.{to_z-of_z}
use Rattle.fmt_q15.specs.Q15.{moved, q15_of}
use Rattle.fmt_q15.specs.Q15Laws.{code_nan, code_most, code_least, code_nought, code_between}
use Rattle.fmt_q15.proofs.q15.q15_from_f64.Goals as goal

pub returns-then-moved : goal.returns-then-moved
unfolding q15_of moved of_int of_bits round
returns-then-moved c = code_nan (moved c.args.x) c.if-moved.true

pub returns-then-v : goal.returns-then-v
unfolding q15_of moved of_int of_bits round
returns-then-v c = code_most (moved c.args.x) c.floor-v.result c.floor-v.ensures c.if-v.true

pub returns-then-v-2 : goal.returns-then-v-2
unfolding q15_of moved of_int of_bits round neg
returns-then-v-2 c = code_least (moved c.args.x) c.floor-v.result c.floor-v.ensures c.if-v-2.true

pub returns-then-v-3 : goal.returns-then-v-3
unfolding q15_of moved of_int of_bits round neg
returns-then-v-3 c = code_nought (moved c.args.x) c.floor-v.result c.floor-v.ensures c.if-moved.false c.if-v.false c.if-v-2.false c.if-v-3.true

pub float_to_int-result : goal.float_to_int-result
unfolding moved of_int of_bits round neg
float_to_int-result c = (code_between (moved c.args.x) c.floor-v.result c.floor-v.ensures c.if-moved.false c.if-v.false c.if-v-2.false c.if-v-3.false).0

pub returns-else-v-3 : goal.returns-else-v-3
unfolding q15_of moved of_int of_bits round neg
returns-else-v-3 c =
    let v = c.floor-v.result in
    to_z-of_z w16 (to_signed 15 v) (record { sfits = to_signed_in 15 v })
    ∙ (code_between (moved c.args.x) v c.floor-v.ensures c.if-moved.false c.if-v.false c.if-v-2.false c.if-v-3.false).1
