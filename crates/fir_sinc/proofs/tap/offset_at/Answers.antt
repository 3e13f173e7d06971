-- `fir_sinc::tap::offset_at` meets its contract. Assumes nothing.
use mathlib.Core.Path.{refl}
use native.Mathlib.Omega.{arith}
use Prim.Native.Nat.{◌-◌, ◌^◌}
use lib.Dec.{le→leb}
use lib.Ieee.{of_bits, of_int, in_float}
use Rattle.fir_sinc.specs.Taps.{centre}
use Rattle.fir_sinc.proofs.tap.offset_at.Goals as goal

pub int_to_float-m : goal.int_to_float-m
unfolding in_float
int_to_float-m c = le→leb (c.args.n - 1) (2 ^ 53) (omega arith)

pub int_to_float-result : goal.int_to_float-result
unfolding in_float
int_to_float-result c = le→leb c.args.i (2 ^ 53) (omega arith)

pub returns : goal.returns
unfolding centre of_int of_bits
returns c = refl
