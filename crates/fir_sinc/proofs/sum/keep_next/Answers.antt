-- `fir_sinc::sum::keep_next` meets its contract: what it leaves, by `Pending`, in each of three cases. Assumes nothing.
use mathlib.Core.Path.{◌≡◌, sym, ◌∙◌}
use Prim.Native.Nat.{◌-◌}
use native.Mathlib.Omega.{arith}
use lib.ListN.{get_or, length-set}
use lib.Ieee.{nan}
use Rattle.laws.specs.Binary64.{◌⊗◌}
use Rattle.fir_sinc.specs.StepLaws.{raw_is}
use Rattle.fir_sinc.specs.Mirrored.{same_raw}
use Rattle.fir_sinc.specs.Pending.{pending_more, pending_next, pending_over}
use Rattle.fir_sinc.proofs.sum.keep_next.Goals as goal

pub returns-then-is_same : goal.returns-then-is_same
returns-then-is_same c =
    let a = c.args in
    let j = a.n - 1 - a.i in
    let m = c.ideal_near-near.ensures.same c.if-near.true in
    let s = c.is_same.ensures.if_true c.if-is_same.true in
    let p = sym c.place_at.ensures ∙ s ∙ c.place_at-then-near.ensures in
    pending_more c.requires.pending_tap (omega arith) (c.requires.pending_tap.keeps j (omega (arith, m.0, c.requires.pending_tap.after)) (λ (q : j ≡ a.p). omega (arith, m.0, c.requires.pending_tap.late)) ∙ sym (same_raw a.fc a.w a.i0 a.n a.i j p m.1))

pub windows_at-two-requires : goal.windows_at-two-requires
windows_at-two-requires c =
    let b = c.requires.pending_tap.behind (omega arith) in
    record { n_low = omega arith; n_high = omega arith; i_high = omega arith; j_high = omega arith }

pub bounds-raws-i-then-p-n : goal.bounds-raws-i-then-p-n
bounds-raws-i-then-p-n c =
    let l = c.args.raws.now in
    omega (arith, length-set l c.args.p (get_or l c.args.p nan ⊗ c.windows_at-two.result.first), c.requires.pending_tap.room)

pub returns-then-p-n : goal.returns-then-p-n
returns-then-p-n c =
    let a = c.args in
    let first = raw_is a.fc a.w a.i0 a.n a.p (c.requires.pending_tap.waiting (omega arith)) c.windows_at-two.ensures.first in
    let second = raw_is a.fc a.w a.i0 a.n a.i c.ideal_near-near.ensures.ideal c.windows_at-two.ensures.second in
    pending_more (pending_over c.requires.pending_tap (omega arith) (omega arith) first) (omega arith) second

pub returns-else-p-n : goal.returns-else-p-n
returns-else-p-n c = pending_next c.requires.pending_tap (omega arith) (omega arith) c.ideal_near-near.ensures.ideal
