-- `fir_sinc::window::curve_of` meets its contract, a window at a time. Assumes nothing.
use mathlib.Core.Path.{sym}
use Rattle.fir_sinc.specs.StepLaws.{curve_of}
use Rattle.fir_sinc.proofs.window.curve_of.Goals as goal

pub returns-in-Hann : goal.returns-in-Hann
unfolding curve_of
returns-in-Hann c = sym (rw c.in-Hann.is)

pub returns-in-Hamming : goal.returns-in-Hamming
unfolding curve_of
returns-in-Hamming c = sym (rw c.in-Hamming.is)

pub returns-in-Blackman : goal.returns-in-Blackman
unfolding curve_of
returns-in-Blackman c = sym (rw c.in-Blackman.is)

pub returns-in-Kaiser : goal.returns-in-Kaiser
unfolding curve_of
returns-in-Kaiser c = sym (rw c.in-Kaiser.is)

pub returns-in-Cosines : goal.returns-in-Cosines
unfolding curve_of
returns-in-Cosines c = sym (rw c.in-Cosines.is)
