-- `fir_lowpass::lowpass::is_inside` meets its contract. Assumes nothing.
use mathlib.Core.Path.{sym, ◌∙◌}
use lib.Ieee.{of_bits, of_int, round}
use Rattle.fir_lowpass.specs.Lowpass.{inside}
use Rattle.fir_lowpass.proofs.lowpass.is_inside.Goals as goal

pub returns-then-fc : goal.returns-then-fc
unfolding inside of_int of_bits round
returns-then-fc c = sym (rw c.if-fc.true)

pub returns-else-fc : goal.returns-else-fc
unfolding inside of_int of_bits round
returns-else-fc c = c.if-fc.false ∙ sym (rw c.if-fc.false)
