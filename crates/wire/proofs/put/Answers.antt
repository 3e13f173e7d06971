-- `wire::put` meets its contract: the two tests are the definition's one. Assumes nothing.
use mathlib.Core.Path.{sym}
use native.Mathlib.Omega.{arith}
use Rattle.wire.specs.Laws.{put_fits, put_short}
use Rattle.wire.proofs.put.Goals as goal

pub returns-then-len-at : goal.returns-then-len-at
returns-then-len-at c =
    let a = c.args in
    sym (put_short a.width a.out.now a.at a.n (omega arith))

pub returns-then-len-at-2 : goal.returns-then-len-at-2
returns-then-len-at-2 c =
    let a = c.args in
    sym (put_short a.width a.out.now a.at a.n (omega arith))

pub returns : goal.returns
returns c =
    let a = c.args in
    cc (put_fits a.width a.out.now a.at a.n (omega arith))
