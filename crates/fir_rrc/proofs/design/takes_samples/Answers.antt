-- `fir_rrc::design::takes_samples` meets its contract. Assumes nothing.
use Rattle.std.proofs.Common.{sym, le-leb}
use borrow.Author.Tests.{lt-leb}
use Rattle.fir_rrc.specs.Rrc.{sampled}
use Rattle.fir_rrc.proofs.design.takes_samples.Goals as goal

pub returns-then-sps-ge2 : goal.returns-then-sps-ge2
unfolding sampled
returns-then-sps-ge2 c = sym (rw (le-leb 2 c.args.sps c.if-sps-ge2.true))

pub returns-else-sps-ge2 : goal.returns-else-sps-ge2
unfolding sampled
returns-else-sps-ge2 c = sym (rw (lt-leb 2 c.args.sps c.if-sps-ge2.false))
