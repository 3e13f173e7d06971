-- `fir_rrc::design::peak_of` meets its contract. Assumes nothing.
use Rattle.std.proofs.Common.{refl}
use lib.Ieee.{of_bits, of_int}
use Rattle.fir_rrc.specs.Rrc.{peak}
use Rattle.fir_rrc.proofs.design.peak_of.Goals as goal

pub returns : goal.returns
unfolding peak of_int of_bits
returns c = refl
