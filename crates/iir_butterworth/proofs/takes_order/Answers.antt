-- `iir_butterworth::takes_order` meets its contract. Assumes nothing.
use mathlib.Core.Path.{sym, ◌∙◌}
use borrow.Author.Tests.{le-leb, lt-leb}
use Rattle.iir_butterworth.specs.Butterworth.{order_taken}
use Rattle.iir_butterworth.proofs.takes_order.Goals as goal

pub returns-then-order-ge2 : goal.returns-then-order-ge2
unfolding order_taken
returns-then-order-ge2 c = sym (rw (le-leb 2 c.args.order c.if-order-ge2.true))

pub returns-else-order-ge2 : goal.returns-else-order-ge2
unfolding order_taken
returns-else-order-ge2 c = let e = lt-leb 2 c.args.order c.if-order-ge2.false in e ∙ sym (rw e)
