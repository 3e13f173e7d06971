-- `win_shapes::cosines::hamming` meets its contract. Assumes nothing.
use mathlib.Core.Path.{refl}
use lib.Ieee.{of_bits, of_int, round}
use Rattle.win_shapes.specs.Windows.{hamming_at}
use Rattle.win_shapes.proofs.cosines.hamming.Goals as goal

pub returns : goal.returns
unfolding hamming_at of_int of_bits round
returns c = rw c.cos.ensures refl
