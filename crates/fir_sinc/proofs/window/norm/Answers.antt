-- `fir_sinc::window::norm` meets its contract. Assumes nothing.
use mathlib.Core.Path.{ap, ◌∙◌}
use Rattle.win_shapes.specs.Steps as Steps
use Rattle.fir_sinc.specs.StepLaws.{norm_is}
use Rattle.fir_sinc.proofs.window.norm.Goals as goal

pub returns : goal.returns
returns c = c.norm.ensures ∙ ap Steps.norm_of c.curve_of.ensures ∙ norm_is c.args.w
