-- `fmt_q15::convert::convert` meets its contract. The loop's invariant: the elements so far are taken, and their numbers
-- stand at the front. Assumes nothing.
use Prim.Native.Nat.{◌≤◌, ◌-◌}
use Rattle.verdict.specs.ConvertsLaws.{Reached}
use Rattle.fmt_q15.proofs.convert.convert.Given as goal

abbrev pub invariant-loop-i : goal.invariant-loop-i
invariant-loop-i g l = (l.i ≤ l.n) × Reached g.T.Coded.takes g.T.Coded.item l.src l.initial.dst l.i l.dst

abbrev pub decreases-loop-i : goal.decreases-loop-i
decreases-loop-i g l = l.n - l.i
