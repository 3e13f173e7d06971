-- `win_sampled::shape::value_of` meets its contract, a window at a time. Assumes nothing.
use Rattle.std.proofs.Common.{sym, ◌∙◌}
use Rattle.win_sampled.specs.SampleLaws.{value_of}
use Rattle.win_sampled.proofs.shape.value_of.Goals as goal

pub returns-in-Hann : goal.returns-in-Hann
unfolding value_of
returns-in-Hann c = c.hann.ensures ∙ sym (rw c.in-Hann.is)

pub returns-in-BlackmanHarris : goal.returns-in-BlackmanHarris
unfolding value_of
returns-in-BlackmanHarris c = c.blackman_harris.ensures ∙ sym (rw c.in-BlackmanHarris.is)

pub returns-in-Kaiser : goal.returns-in-Kaiser
unfolding value_of
returns-in-Kaiser c = c.value.ensures ∙ sym (rw c.in-Kaiser.is)
