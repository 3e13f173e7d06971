-- `win_shapes::curve::place_at` meets its contract, a curve at a time. Assumes nothing.
use mathlib.Core.Path.{sym, ◌∙◌}
use lib.Ieee.{of_bits, of_int, round}
use Rattle.win_shapes.specs.Windows.{angle}
use Rattle.win_shapes.specs.Steps.{place_at}
use Rattle.win_shapes.proofs.curve.place_at.Goals as goal

pub returns-in-Cosines : goal.returns-in-Cosines
unfolding place_at angle of_int of_bits round
returns-in-Cosines c = sym (rw c.in-Cosines.is)

pub returns-in-Kaiser : goal.returns-in-Kaiser
unfolding place_at
returns-in-Kaiser c = c.radicand.ensures ∙ sym (rw c.in-Kaiser.is)
