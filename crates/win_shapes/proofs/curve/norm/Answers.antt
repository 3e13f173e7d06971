-- `win_shapes::curve::norm` meets its contract, a curve at a time. Assumes nothing.
use mathlib.Core.Path.{sym}
use lib.Ieee.{of_bits, of_int}
use Rattle.win_shapes.specs.Steps.{norm_of}
use Rattle.win_shapes.proofs.curve.norm.Goals as goal

pub returns-in-Cosines : goal.returns-in-Cosines
unfolding norm_of of_int of_bits
returns-in-Cosines c = sym (rw c.in-Cosines.is)

pub returns-in-Kaiser : goal.returns-in-Kaiser
unfolding norm_of
returns-in-Kaiser c = rw c.bessel_i0-s.ensures (sym (rw c.in-Kaiser.is))
