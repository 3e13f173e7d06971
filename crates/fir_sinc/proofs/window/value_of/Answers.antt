-- `fir_sinc::window::value_of` meets its contract, a window at a time. Assumes nothing.
use mathlib.Core.Path.{sym, ◌∙◌}
use Rattle.fir_sinc.specs.StepLaws.{value_of}
use Rattle.fir_sinc.proofs.window.value_of.Goals as goal

pub returns-in-Hann : goal.returns-in-Hann
unfolding value_of
returns-in-Hann c = c.hann.ensures ∙ sym (rw c.in-Hann.is)

pub returns-in-Hamming : goal.returns-in-Hamming
unfolding value_of
returns-in-Hamming c = c.hamming.ensures ∙ sym (rw c.in-Hamming.is)

pub returns-in-Blackman : goal.returns-in-Blackman
unfolding value_of
returns-in-Blackman c = c.blackman.ensures ∙ sym (rw c.in-Blackman.is)

pub returns-in-Kaiser : goal.returns-in-Kaiser
unfolding value_of
returns-in-Kaiser c = c.value.ensures ∙ sym (rw c.in-Kaiser.is)

pub returns-in-Cosines : goal.returns-in-Cosines
unfolding value_of
returns-in-Cosines c = c.sum_of.ensures ∙ sym (rw c.in-Cosines.is)
