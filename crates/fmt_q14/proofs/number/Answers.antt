-- `fmt_q14::number` meets its contract: a floor of 0, any other of 16 bits, and the rest. Assumes nothing.
use mathlib.Core.Path.{◌∙◌}
use lib.Ieee.{of_bits, of_int, round, sub, div, neg, to_signed}
use lib.Ieee.Casts.{to_signed_in}
use mir.Syntax.{w16}
use mir.ValLaws.{to_z-of_z}
use Rattle.fmt_q14.specs.Q14.{moved}
use Rattle.fmt_q14.proofs.Q14Laws.{floor_nought, floor_cut, code_number, code_low, code_high}
use Rattle.fmt_q14.proofs.number.Goals as goal
use Rattle.fmt_q14.proofs.number.Goals.{else-v-via-then-v+else-v-2, else-v-via-else-v}

pub float_to_int-result : goal.float_to_int-result
unfolding of_int of_bits round neg
float_to_int-result c = (floor_cut (moved c.args.x) c.args.v c.requires c.if-v.true c.if-v-2.true c.if-v-3.false).0

pub returns-then-v-3 : goal.returns-then-v-3
unfolding of_int of_bits round neg
returns-then-v-3 c =
    let a = c.args in
    let low = c.if-v.true in
    let high = c.if-v-2.true in
    code_number a.i a.x a.v _ c.requires low high (floor_nought (moved a.x) a.v c.requires low high c.if-v-3.true)

pub returns-else-v-3 : goal.returns-else-v-3
unfolding of_int of_bits round neg
returns-else-v-3 c =
    let a = c.args in
    let low = c.if-v.true in
    let high = c.if-v-2.true in
    let back = to_z-of_z w16 (to_signed 15 a.v) (record { sfits = to_signed_in 15 a.v }) in
    code_number a.i a.x a.v _ c.requires low high (back ∙ (floor_cut (moved a.x) a.v c.requires low high c.if-v-3.false).1)

pub returns-else-v : goal.returns-else-v
unfolding of_int of_bits round sub div neg
returns-else-v c =
    let a = c.args in
    elim c.else-v.branch [
      | else-v-via-then-v+else-v-2 w ↦ code_high a.i a.x a.v c.requires w.if-v-2.false
      | else-v-via-else-v w ↦ code_low a.i a.x a.v c.requires w.if-v.false
    ]
