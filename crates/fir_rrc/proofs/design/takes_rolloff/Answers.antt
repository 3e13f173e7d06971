-- `fir_rrc::design::takes_rolloff` meets its contract. Assumes nothing.
use Rattle.std.proofs.Common.{sym, ◌∙◌}
use lib.Ieee.{of_bits, of_int, round}
use Rattle.fir_rrc.specs.Rrc.{rolloff_taken}
use Rattle.fir_rrc.proofs.design.takes_rolloff.Goals as goal

pub returns-then-b : goal.returns-then-b
unfolding rolloff_taken of_int of_bits round
returns-then-b c = sym (rw c.if-b.true)

pub returns-else-b : goal.returns-else-b
unfolding rolloff_taken of_int of_bits round
returns-else-b c = c.if-b.false ∙ sym (rw c.if-b.false)
