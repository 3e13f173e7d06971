-- `ticket_slices::fill::finish` meets its contract. The loop's invariant: the taps so far stand at the front. Assumes
-- nothing.
use Rattle.std.proofs.Common.{◌≡◌, ◌≤◌, length}
use Rattle.laws.specs.Filled.{filled}
use Rattle.ticket_slices.proofs.fill.finish.Given as goal

abbrev pub invariant-loop-i : goal.invariant-loop-i
invariant-loop-i g l = (l.i ≤ length l.initial.taps) × (l.taps ≡ filled l.i (g.D.Design.tap l.design) l.initial.taps)
