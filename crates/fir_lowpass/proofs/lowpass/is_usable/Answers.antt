-- `fir_lowpass::lowpass::is_usable` meets its contract. Assumes nothing.
use mathlib.Core.Path.{sym, ◌∙◌}
use lib.Ieee.{of_bits, of_int}
use Rattle.fir_lowpass.specs.Lowpass.{usable}
use Rattle.fir_lowpass.proofs.lowpass.is_usable.Goals as goal

pub returns-then-is_finite : goal.returns-then-is_finite
unfolding usable of_int of_bits
returns-then-is_finite c = sym (rw (sym c.is_finite.ensures ∙ c.if-is_finite.true))

pub returns-else-is_finite : goal.returns-else-is_finite
unfolding usable
returns-else-is_finite c = c.if-is_finite.false ∙ sym (rw (sym c.is_finite.ensures ∙ c.if-is_finite.false))
