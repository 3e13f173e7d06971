-- `win_sampled::shape::divisor` meets its contract. Assumes nothing.
use Rattle.std.proofs.Common.{sym}
use Rattle.win_sampled.specs.Shapes.{divisor_of}
use Rattle.win_sampled.proofs.shape.divisor.Goals as goal

pub returns-in-Periodic : goal.returns-in-Periodic
unfolding divisor_of
returns-in-Periodic c = sym (rw c.in-Periodic.is)

pub returns-then-n-eq0 : goal.returns-then-n-eq0
unfolding divisor_of
returns-then-n-eq0 c = sym (rw (c.in-Symmetric.is, c.if-n-eq0.true))

pub returns-else-n-eq0 : goal.returns-else-n-eq0
unfolding divisor_of
returns-else-n-eq0 c = sym (rw c.in-Symmetric.is)
