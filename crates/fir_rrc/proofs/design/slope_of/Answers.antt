-- `fir_rrc::design::slope_of` meets its contract. Assumes nothing.
use Rattle.std.proofs.Common.{refl}
use lib.Ieee.{of_bits, of_int}
use Rattle.fir_rrc.specs.Rrc.{slope}
use Rattle.fir_rrc.proofs.design.slope_of.Goals as goal

pub returns : goal.returns
unfolding slope of_int of_bits
returns c = rw (c.sin.ensures, c.cos.ensures) refl
