-- `win_shapes::curve::argument_of` meets its contract, a curve at a time. Assumes nothing.
use mathlib.Core.Path.{sym, ◌∙◌}
use Rattle.win_shapes.specs.Steps.{argument_of}
use Rattle.win_shapes.proofs.curve.argument_of.Goals as goal

pub returns-in-Cosines : goal.returns-in-Cosines
unfolding argument_of
returns-in-Cosines c = sym (rw c.in-Cosines.is)

pub returns-in-Kaiser : goal.returns-in-Kaiser
unfolding argument_of
returns-in-Kaiser c = c.argument.ensures ∙ sym (rw c.in-Kaiser.is)
