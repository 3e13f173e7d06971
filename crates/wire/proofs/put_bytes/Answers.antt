-- `wire::put_bytes` meets its contract. The loop's invariant: storing what is left gives what storing everything would
-- have given at first. Assumes nothing.
use mathlib.Core.Path.{◌≡◌, refl, ◌∙◌}
use Prim.Native.Nat.{◌+◌, ◌-◌}
use native.Mathlib.Omega.{arith}
use lib.ListN.{length-set}
use Rattle.wire.specs.Laws.{store_none, store_next}
use Rattle.wire.proofs.put_bytes.Goals as goal

pub loop-i-init : goal.loop-i-init
loop-i-init c =
    let a = c.args in
    let all : a.at + a.width - a.at ≡ a.width = omega arith in
    (omega arith, omega arith, refl, rw all)

pub loop-i-preserved : goal.loop-i-preserved
loop-i-preserved c =
    let a = c.args in
    (omega arith, omega arith, length-set c.loop-i.out c.loop-i.i c.lowest.result ∙ c.loop-i.invariant.2, cc (store_next c.loop-i.out (a.at + a.width) c.loop-i.i c.loop-i.rest (omega arith), c.lowest.ensures))

pub shape_of-out : goal.shape_of-out
shape_of-out c = c.loop-i.invariant.2

pub returns : goal.returns
returns c =
    let a = c.args in
    cc (store_none c.loop-i.out (a.at + a.width) c.loop-i.i c.loop-i.rest (omega arith))
