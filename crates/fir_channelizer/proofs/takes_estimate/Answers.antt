-- `fir_channelizer::takes_estimate` meets its contract. Assumes nothing.
use Rattle.std.proofs.Common.{sym, ◌∙◌}
use lib.Ieee.{of_bits, of_int}
use Rattle.fir_channelizer.specs.Channelizer.{count_taken}
use Rattle.fir_channelizer.proofs.takes_estimate.Goals as goal

pub returns-then-is_finite : goal.returns-then-is_finite
unfolding count_taken of_int of_bits
returns-then-is_finite c = sym (rw (sym c.is_finite.ensures ∙ c.if-is_finite.true))

pub returns-else-is_finite : goal.returns-else-is_finite
unfolding count_taken
returns-else-is_finite c = c.if-is_finite.false ∙ sym (rw (sym c.is_finite.ensures ∙ c.if-is_finite.false))
