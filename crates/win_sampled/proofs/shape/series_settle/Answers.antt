-- `win_sampled::shape::series_settle` meets its contract, a shape at a time. Assumes nothing.
use Rattle.std.proofs.Common.{sym, ◌∙◌}
use Rattle.win_sampled.specs.Shapes.{series_settle}
use Rattle.win_sampled.proofs.shape.series_settle.Goals as goal

pub returns-in-Hann : goal.returns-in-Hann
unfolding series_settle
returns-in-Hann c = sym (rw c.in-Hann.is)

pub returns-in-BlackmanHarris : goal.returns-in-BlackmanHarris
unfolding series_settle
returns-in-BlackmanHarris c = sym (rw c.in-BlackmanHarris.is)

pub returns-in-Kaiser : goal.returns-in-Kaiser
unfolding series_settle
returns-in-Kaiser c = c.settles.ensures ∙ sym (rw c.in-Kaiser.is)
