-- `iir_biquad::preemphasis::takes_constant` meets its contract. Assumes nothing.
use mathlib.Core.Path.{sym, ◌∙◌}
use lib.Ieee.{of_bits, of_int, round}
use Rattle.iir_biquad.specs.Preemphasis.{constant_taken}
use Rattle.iir_biquad.proofs.preemphasis.takes_constant.Goals as goal

pub returns-then-tau : goal.returns-then-tau
unfolding constant_taken of_int of_bits round
returns-then-tau c = sym (rw c.if-tau.true)

pub returns-else-tau : goal.returns-else-tau
unfolding constant_taken of_int of_bits
returns-else-tau c = c.if-tau.false ∙ sym (rw c.if-tau.false)
