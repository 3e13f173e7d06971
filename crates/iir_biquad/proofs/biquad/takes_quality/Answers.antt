-- `iir_biquad::biquad::takes_quality` meets its contract. Assumes nothing.
use mathlib.Core.Path.{sym, ◌∙◌}
use lib.Ieee.{of_bits, of_int}
use Rattle.iir_biquad.specs.Biquad.{quality_taken}
use Rattle.iir_biquad.proofs.biquad.takes_quality.Goals as goal

pub returns-then-q : goal.returns-then-q
unfolding quality_taken of_int of_bits
returns-then-q c = c.is_finite.ensures ∙ sym (rw c.if-q.true)

pub returns-else-q : goal.returns-else-q
unfolding quality_taken of_int of_bits
returns-else-q c = c.if-q.false ∙ sym (rw c.if-q.false)
