-- `math_trig::reduce::modulo_4` meets its contract: the last two bits of a pattern, by `proofs/Modulo`. Assumes
-- nothing.
use lib.Ieee.{of_bits}
use Rattle.math_trig.proofs.Modulo.{modulo_is, modulo_asked}
use Rattle.math_trig.proofs.reduce.modulo_4.Goals as goal

pub float_to_bits-result : goal.float_to_bits-result
unfolding of_bits
float_to_bits-result c = modulo_asked c.args.k c.requires

pub returns : goal.returns
unfolding of_bits
returns c = modulo_is c.args.k c.requires
