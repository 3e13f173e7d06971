-- `win_sampled::fill::fill` meets its contract, by FillLaws. Assumes nothing.
use Rattle.std.proofs.Common.{◌-◌, length}
use Rattle.win_sampled.proofs.FillLaws.{Filling}
use Rattle.win_sampled.proofs.fill.fill.Given as goal

abbrev pub invariant-loop-i : goal.invariant-loop-i
invariant-loop-i g l = Filling g.S.Sample.of l.shape l.i0 l.d l.initial.out l.out l.i

abbrev pub decreases-loop-i : goal.decreases-loop-i
decreases-loop-i g l = length l.initial.out - l.i
