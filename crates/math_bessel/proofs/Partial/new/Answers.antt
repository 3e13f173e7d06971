-- `math_bessel::Partial::new` meets its contract: its literals are the definition's fractions. Assumes nothing.
use Rattle.std.proofs.Common.{refl}
use lib.Ieee.{of_bits, of_int, round}
use Rattle.math_bessel.proofs.Partial.new.Goals as goal

pub returns : goal.returns
unfolding of_int of_bits round
returns c = refl
