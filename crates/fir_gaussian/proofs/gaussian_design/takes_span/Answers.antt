-- `fir_gaussian::gaussian_design::takes_span` meets its contract. Assumes nothing.
use Rattle.std.proofs.Common.{sym, le-leb}
use borrow.Author.Tests.{lt-leb}
use Rattle.fir_gaussian.specs.Gaussian.{span_taken}
use Rattle.fir_gaussian.proofs.gaussian_design.takes_span.Goals as goal

pub returns-then-span-ge2 : goal.returns-then-span-ge2
unfolding span_taken
returns-then-span-ge2 c = sym (rw (le-leb 2 c.args.span c.if-span-ge2.true))

pub returns-else-span-ge2 : goal.returns-else-span-ge2
unfolding span_taken
returns-else-span-ge2 c = sym (rw (lt-leb 2 c.args.span c.if-span-ge2.false))
