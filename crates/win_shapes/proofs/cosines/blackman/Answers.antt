-- `win_shapes::cosines::blackman` meets its contract. Assumes nothing.
use mathlib.Core.Path.{refl}
use lib.Ieee.{of_bits, of_int, round}
use Rattle.win_shapes.specs.Windows.{blackman_at}
use Rattle.win_shapes.proofs.cosines.blackman.Goals as goal

pub returns : goal.returns
unfolding blackman_at of_int of_bits round
returns c = rw (c.cos.ensures, c.cos-2.ensures) refl
