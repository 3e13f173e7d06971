-- `win_shapes::kaiser::radicand` meets its contract. Assumes nothing.
use mathlib.Core.Path.{sym}
use lib.Ieee.{of_bits, of_int}
use Rattle.win_shapes.specs.Windows.{not_below0, kaiser_radicand}
use Rattle.win_shapes.proofs.kaiser.radicand.Goals as goal

pub returns-then-left : goal.returns-then-left
unfolding kaiser_radicand not_below0 of_int of_bits
returns-then-left c = sym (rw c.if-left.true)

pub returns-else-left : goal.returns-else-left
unfolding kaiser_radicand not_below0 of_int of_bits
returns-else-left c = sym (rw c.if-left.false)
