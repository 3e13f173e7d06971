-- `win_shapes::curve::arguments_of` meets its contract, a curve at a time. Assumes nothing.
use mathlib.Core.Path.{sym, ◌∙◌}
use Rattle.win_shapes.specs.Steps.{argument_of}
use Rattle.win_shapes.proofs.curve.arguments_of.Goals as goal

pub returns-in-Cosines : goal.returns-in-Cosines
unfolding argument_of
returns-in-Cosines c =
    let e = c.in-Cosines.is in
    record { first = sym (rw e); second = sym (rw e) }

pub returns-in-Kaiser : goal.returns-in-Kaiser
unfolding argument_of
returns-in-Kaiser c =
    let k = c.in-Kaiser.is in
    record { first = c.arguments.ensures.first ∙ sym (rw k); second = c.arguments.ensures.second ∙ sym (rw k) }
