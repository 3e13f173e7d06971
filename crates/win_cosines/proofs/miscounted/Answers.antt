-- `win_cosines::miscounted` meets its contract. Assumes nothing.
use Rattle.std.proofs.Common.{refl}
use lib.Ieee.{of_bits, of_int, round}
use Rattle.win_cosines.proofs.miscounted.Goals as goal

pub returns : goal.returns
unfolding of_bits of_int round
returns c = rw c.nearest_u64_to_f64-given.ensures refl
