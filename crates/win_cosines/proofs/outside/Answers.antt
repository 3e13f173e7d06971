-- `win_cosines::outside` meets its contract. Assumes nothing.
use Rattle.std.proofs.Common.{refl}
use lib.Ieee.{of_bits, of_int, round}
use Rattle.win_cosines.proofs.outside.Goals as goal

pub returns : goal.returns
unfolding of_bits of_int round
returns c = refl
