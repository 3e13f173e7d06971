-- `win_shapes::cosines::blackman_harris` meets its contract. Assumes nothing.
use mathlib.Core.Path.{refl}
use lib.Ieee.{of_bits, of_int, round}
use Rattle.win_shapes.specs.Windows.{harris_at}
use Rattle.win_shapes.proofs.cosines.blackman_harris.Goals as goal

pub returns : goal.returns
unfolding harris_at of_int of_bits round
returns c = rw (c.cos.ensures, c.cos-2.ensures, c.cos-3.ensures) refl
