-- `fir_halfband::takes_length` meets its contract. Assumes nothing.
use mathlib.Core.Path.{sym}
use borrow.Author.Tests.{le-leb, lt-leb}
use Rattle.fir_halfband.specs.Halfband.{length_taken}
use Rattle.fir_halfband.proofs.takes_length.Goals as goal

pub returns-then-n-ge3 : goal.returns-then-n-ge3
unfolding length_taken
returns-then-n-ge3 c = sym (rw (le-leb 3 c.args.n c.if-n-ge3.true))

pub returns-else-n-ge3 : goal.returns-else-n-ge3
unfolding length_taken
returns-else-n-ge3 c = sym (rw (lt-leb 3 c.args.n c.if-n-ge3.false))
