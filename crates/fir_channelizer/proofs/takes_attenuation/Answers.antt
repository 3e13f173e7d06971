-- `fir_channelizer::takes_attenuation` meets its contract. Assumes nothing.
use Rattle.std.proofs.Common.{sym, ◌∙◌}
use lib.Ieee.{of_bits, of_int}
use Rattle.fir_channelizer.specs.Channelizer.{attenuation_taken}
use Rattle.fir_channelizer.proofs.takes_attenuation.Goals as goal

pub returns-then-attenuation : goal.returns-then-attenuation
unfolding attenuation_taken of_int of_bits
returns-then-attenuation c = sym (rw c.if-attenuation.true)

pub returns-else-attenuation : goal.returns-else-attenuation
unfolding attenuation_taken of_int of_bits
returns-else-attenuation c = c.if-attenuation.false ∙ sym (rw c.if-attenuation.false)
