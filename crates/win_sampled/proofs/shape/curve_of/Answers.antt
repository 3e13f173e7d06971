-- `win_sampled::shape::curve_of` meets its contract, a window at a time. Assumes nothing.
use Rattle.std.proofs.Common.{sym}
use Rattle.win_sampled.specs.SampleLaws.{curve_of}
use Rattle.win_sampled.proofs.shape.curve_of.Goals as goal

pub returns-in-Hann : goal.returns-in-Hann
unfolding curve_of
returns-in-Hann c = sym (rw c.in-Hann.is)

pub returns-in-BlackmanHarris : goal.returns-in-BlackmanHarris
unfolding curve_of
returns-in-BlackmanHarris c = sym (rw c.in-BlackmanHarris.is)

pub returns-in-Kaiser : goal.returns-in-Kaiser
unfolding curve_of
returns-in-Kaiser c = sym (rw c.in-Kaiser.is)
