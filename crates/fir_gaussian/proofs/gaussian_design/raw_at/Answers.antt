-- `fir_gaussian::gaussian_design::raw_at` meets its contract. Assumes nothing.
use Rattle.std.proofs.Common.{◌^◌, arith, le→leb}
use lib.Ieee.{in_float}
use Rattle.fir_gaussian.specs.Gaussian.{raw_at}
use Rattle.fir_gaussian.proofs.gaussian_design.raw_at.Goals as goal

pub int_to_float-x : goal.int_to_float-x
unfolding in_float
int_to_float-x c = le→leb c.args.i (2 ^ 53) (omega arith)

pub returns : goal.returns
unfolding raw_at
returns c = c.exp.ensures
