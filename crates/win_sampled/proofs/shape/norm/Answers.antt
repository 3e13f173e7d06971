-- `win_sampled::shape::norm` meets its contract. Assumes nothing.
use Rattle.std.proofs.Common.{ap, ◌∙◌}
use Rattle.win_shapes.specs.Steps as Steps
use Rattle.win_sampled.specs.SampleLaws.{norm_is}
use Rattle.win_sampled.proofs.shape.norm.Goals as goal

pub returns : goal.returns
returns c = c.norm.ensures ∙ ap Steps.norm_of c.curve_of.ensures ∙ norm_is c.args.shape
