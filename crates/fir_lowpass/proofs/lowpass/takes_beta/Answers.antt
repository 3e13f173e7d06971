-- `fir_lowpass::lowpass::takes_beta` meets its contract, a window at a time. Assumes nothing.
use mathlib.Core.Path.{sym, ◌∙◌}
use lib.Ieee.{of_bits, of_int}
use Rattle.fir_lowpass.specs.Lowpass.{beta_taken}
use Rattle.fir_lowpass.proofs.lowpass.takes_beta.Goals as goal

pub returns-in-Hann : goal.returns-in-Hann
unfolding beta_taken
returns-in-Hann c = sym (rw c.in-Hann.is)

pub returns-in-Hamming : goal.returns-in-Hamming
unfolding beta_taken
returns-in-Hamming c = sym (rw c.in-Hamming.is)

pub returns-in-Blackman : goal.returns-in-Blackman
unfolding beta_taken
returns-in-Blackman c = sym (rw c.in-Blackman.is)

pub returns-then-is_finite : goal.returns-then-is_finite
unfolding beta_taken of_int of_bits
returns-then-is_finite c = sym (rw (c.in-Kaiser.is, sym c.is_finite.ensures ∙ c.if-is_finite.true))

pub returns-else-is_finite : goal.returns-else-is_finite
unfolding beta_taken
returns-else-is_finite c = c.if-is_finite.false ∙ sym (rw (c.in-Kaiser.is, sym c.is_finite.ensures ∙ c.if-is_finite.false))

pub returns-in-Cosines : goal.returns-in-Cosines
unfolding beta_taken
returns-in-Cosines c = sym (rw c.in-Cosines.is)
