-- `fir_rrc::design::takes_span` meets its contract. Assumes nothing.
use Rattle.std.proofs.Common.{sym, le-leb}
use borrow.Author.Tests.{lt-leb}
use Rattle.fir_rrc.specs.Rrc.{spanned}
use Rattle.fir_rrc.proofs.design.takes_span.Goals as goal

pub returns-then-span-ge4 : goal.returns-then-span-ge4
unfolding spanned
returns-then-span-ge4 c = sym (rw (le-leb 4 c.args.span c.if-span-ge4.true))

pub returns-else-span-ge4 : goal.returns-else-span-ge4
unfolding spanned
returns-else-span-ge4 c = sym (rw (lt-leb 4 c.args.span c.if-span-ge4.false))
