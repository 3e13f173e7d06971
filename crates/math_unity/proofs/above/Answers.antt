-- `math_unity::above` meets its contract. Assumes nothing.
use Rattle.std.proofs.Common.{refl}
use lib.Ieee.{of_bits}
use Rattle.math_unity.specs.Digits.{pos_of}
use Rattle.math_unity.proofs.above.Goals as goal

pub returns-then-x : goal.returns-then-x
unfolding pos_of of_bits
returns-then-x c = rw c.if-x.true refl

pub returns-else-x : goal.returns-else-x
unfolding pos_of of_bits
returns-else-x c = rw c.if-x.false refl
