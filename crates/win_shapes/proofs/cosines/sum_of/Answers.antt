-- `win_shapes::cosines::sum_of` meets its contract. Assumes nothing.
use mathlib.Core.Path.{refl}
use lib.Ieee.{of_bits, of_int, round}
use Rattle.win_shapes.specs.Windows.{cosines_at}
use Rattle.win_shapes.proofs.cosines.sum_of.Goals as goal

pub returns : goal.returns
unfolding cosines_at of_int of_bits round
returns c =
    rw (
      c.cos.ensures,
      c.cos-2.ensures,
      c.cos-3.ensures,
      c.cos-4.ensures,
    ) refl
