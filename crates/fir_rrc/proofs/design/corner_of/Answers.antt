-- `fir_rrc::design::corner_of` meets its contract. Assumes nothing.
use Rattle.std.proofs.Common.{refl}
use lib.Ieee.{of_bits, of_int}
use Rattle.fir_rrc.specs.Rrc.{corner}
use Rattle.fir_rrc.proofs.design.corner_of.Goals as goal

pub returns : goal.returns
unfolding corner of_int of_bits
returns c = rw (c.sin.ensures, c.cos.ensures) refl
