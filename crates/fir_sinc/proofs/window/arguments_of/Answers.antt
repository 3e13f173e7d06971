-- `fir_sinc::window::arguments_of` meets its contract. Assumes nothing.
use mathlib.Core.Path.{ap, ◌∙◌}
use Rattle.win_shapes.specs.declared.curve.Curve.{Curve}
use Rattle.win_shapes.specs.Steps.{argument_of}
use Rattle.fir_sinc.proofs.window.arguments_of.Goals as goal

pub returns : goal.returns
returns c =
    let a = c.args in
    record { first = c.arguments_of.ensures.first ∙ ap (λ (z : Curve). argument_of z a.place) c.curve_of.ensures; second = c.arguments_of.ensures.second ∙ ap (λ (z : Curve). argument_of z a.other) c.curve_of.ensures }
