-- `fir_sinc::tap::ideal_at` meets its contract. Assumes nothing.
use mathlib.Core.Path.{refl}
use lib.Ieee.{of_bits, of_int}
use Rattle.fir_sinc.proofs.tap.ideal_at.Goals as goal

pub returns : goal.returns
unfolding of_int of_bits
returns c = rw (c.sinc_at.ensures, c.offset_at.ensures) refl
