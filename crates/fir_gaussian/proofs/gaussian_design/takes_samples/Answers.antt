-- `fir_gaussian::gaussian_design::takes_samples` meets its contract. Assumes nothing.
use Rattle.std.proofs.Common.{sym, le-leb}
use borrow.Author.Tests.{lt-leb}
use Rattle.fir_gaussian.specs.Gaussian.{samples_taken}
use Rattle.fir_gaussian.proofs.gaussian_design.takes_samples.Goals as goal

pub returns-then-sps-ge2 : goal.returns-then-sps-ge2
unfolding samples_taken
returns-then-sps-ge2 c = sym (rw (le-leb 2 c.args.sps c.if-sps-ge2.true))

pub returns-else-sps-ge2 : goal.returns-else-sps-ge2
unfolding samples_taken
returns-else-sps-ge2 c = sym (rw (lt-leb 2 c.args.sps c.if-sps-ge2.false))
