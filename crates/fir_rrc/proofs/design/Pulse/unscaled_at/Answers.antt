-- `fir_rrc::design::Pulse::unscaled_at` meets its contract. Assumes nothing.
use Rattle.std.proofs.Common.{◌-◌, ◌^◌, arith, le→leb}
use lib.Ieee.{of_bits, of_int, in_float}
use Rattle.fir_rrc.specs.Rrc.{unscaled_at}
use Rattle.fir_rrc.proofs.design.Pulse.unscaled_at.Goals as goal

pub int_to_float-t : goal.int_to_float-t
unfolding in_float
int_to_float-t c = le→leb c.args.k (2 ^ 53) (omega arith)

pub int_to_float-t-2 : goal.int_to_float-t-2
unfolding in_float
int_to_float-t-2 c = le→leb (c.args.self.n - 1) (2 ^ 53) (omega arith)

pub int_to_float-t-3 : goal.int_to_float-t-3
unfolding in_float
int_to_float-t-3 c = le→leb c.args.self.sps (2 ^ 53) (omega arith)

pub returns : goal.returns
unfolding unscaled_at of_int of_bits
returns c = c.pulse_at.ensures
