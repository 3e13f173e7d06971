-- `fir_lowpass::lowpass::series_settle` meets its contract, a window at a time. Assumes nothing.
use mathlib.Core.Path.{sym, ◌∙◌}
use Rattle.fir_lowpass.specs.Lowpass.{series_settle}
use Rattle.fir_lowpass.proofs.lowpass.series_settle.Goals as goal

pub returns-in-Hann : goal.returns-in-Hann
unfolding series_settle
returns-in-Hann c = sym (rw c.in-Hann.is)

pub returns-in-Hamming : goal.returns-in-Hamming
unfolding series_settle
returns-in-Hamming c = sym (rw c.in-Hamming.is)

pub returns-in-Blackman : goal.returns-in-Blackman
unfolding series_settle
returns-in-Blackman c = sym (rw c.in-Blackman.is)

pub returns-in-Kaiser : goal.returns-in-Kaiser
unfolding series_settle
returns-in-Kaiser c = c.settles.ensures ∙ sym (rw c.in-Kaiser.is)

pub returns-in-Cosines : goal.returns-in-Cosines
unfolding series_settle
returns-in-Cosines c = sym (rw c.in-Cosines.is)
