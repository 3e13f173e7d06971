-- `win_sampled::shape::takes_shape` meets its contract, a shape at a time. Assumes nothing.
use Rattle.std.proofs.Common.{sym, ◌∙◌}
use lib.Ieee.{of_bits, of_int}
use Rattle.win_sampled.specs.Shapes.{shape_taken}
use Rattle.win_sampled.proofs.shape.takes_shape.Goals as goal

pub returns-in-Hann : goal.returns-in-Hann
unfolding shape_taken
returns-in-Hann c = sym (rw c.in-Hann.is)

pub returns-in-BlackmanHarris : goal.returns-in-BlackmanHarris
unfolding shape_taken
returns-in-BlackmanHarris c = sym (rw c.in-BlackmanHarris.is)

pub returns-then-is_finite : goal.returns-then-is_finite
unfolding shape_taken of_int of_bits
returns-then-is_finite c = sym (rw (c.in-Kaiser.is, sym c.is_finite.ensures ∙ c.if-is_finite.true))

pub returns-else-is_finite : goal.returns-else-is_finite
unfolding shape_taken
returns-else-is_finite c = c.if-is_finite.false ∙ sym (rw (c.in-Kaiser.is, sym c.is_finite.ensures ∙ c.if-is_finite.false))
