-- `iir_butterworth::section::Section::angle` meets its contract: an even order, and then an odd one. Assumes nothing.
use mathlib.Core.Path.{sym}
use Prim.Native.Nat.{◌+◌, ◌%◌, ◌^◌}
use native.Mathlib.Omega.{arith}
use borrow.Author.Tests.{eq-eqb, ne_eqb}
use lib.Dec.{le→leb}
use lib.Ieee.{of_bits, of_int, in_float}
use Rattle.iir_butterworth.specs.Butterworth.{angle_of}
use Rattle.iir_butterworth.proofs.section.Section.angle.Goals as goal

pub int_to_float-k : goal.int_to_float-k
unfolding in_float
int_to_float-k c = le→leb (c.args.self.i + 1) (2 ^ 53) (omega arith)

pub int_to_float-n : goal.int_to_float-n
unfolding in_float
int_to_float-n c = le→leb c.args.self.order (2 ^ 53) (omega arith)

pub returns-then-self-eq0 : goal.returns-then-self-eq0
unfolding angle_of of_int of_bits
returns-then-self-eq0 c = sym (rw (eq-eqb (c.args.self.order % 2) 0 c.if-self-eq0.true))

pub returns : goal.returns
unfolding angle_of of_int of_bits
returns c = sym (rw (ne_eqb (c.args.self.order % 2) 0 c.if-self-eq0.false))
