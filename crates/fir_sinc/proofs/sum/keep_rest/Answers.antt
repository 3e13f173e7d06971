-- `fir_sinc::sum::keep_rest` meets its contract: `PendingTap` goes through the loop. Assumes nothing.
use mathlib.Core.Path.{refl, ◌∙◌}
use native.Mathlib.Omega.{arith}
use lib.ListN.{get_or, length-set}
use lib.Ieee.{nan}
use Rattle.laws.specs.Binary64.{◌⊗◌}
use Rattle.fir_sinc.specs.StepLaws.{raw_is}
use Rattle.fir_sinc.specs.Pending.{pending_over, pending_all}
use Rattle.fir_sinc.proofs.sum.keep_rest.Goals as goal

pub loop-i-init : goal.loop-i-init
loop-i-init c = (c.requires.from_high, refl, c.requires.pending_tap)

pub keep_next-p-requires : goal.keep_next-p-requires
keep_next-p-requires c = record { n_high = omega arith; i_high = omega arith; pending_tap = c.loop-i.invariant.2 }

pub loop-i-preserved : goal.loop-i-preserved
loop-i-preserved c = (omega arith, c.raws-1.given ∙ c.loop-i.invariant.1, c.keep_next-p.ensures)

pub bounds-raws-p : goal.bounds-raws-p
bounds-raws-p c = omega (arith, c.loop-i.invariant.2.room)

pub bounds-raws-p-then-p-n : goal.bounds-raws-p-then-p-n
bounds-raws-p-then-p-n c = omega (arith, c.loop-i.invariant.2.room)

pub shape_of-raws-then-p-n : goal.shape_of-raws-then-p-n
shape_of-raws-then-p-n c = length-set c.loop-i.raws c.loop-i.p (get_or c.loop-i.raws c.loop-i.p nan ⊗ c.window_at.result) ∙ c.loop-i.invariant.1

pub returns-then-p-n : goal.returns-then-p-n
returns-then-p-n c =
    let a = c.args in
    let t = c.loop-i.invariant.2 in
    pending_all (pending_over t (omega arith) (omega arith) (raw_is a.fc a.w a.i0 a.n c.loop-i.p (t.waiting (omega arith)) c.window_at.ensures)) (omega arith) (omega arith)

pub shape_of-raws-else-p-n : goal.shape_of-raws-else-p-n
shape_of-raws-else-p-n c = c.loop-i.invariant.1

pub returns-else-p-n : goal.returns-else-p-n
returns-else-p-n c = pending_all c.loop-i.invariant.2 (omega arith) (omega arith)
