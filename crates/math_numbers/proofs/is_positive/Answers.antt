-- `math_numbers::is_positive` meets its contract. Assumes nothing.
use Rattle.std.proofs.Common.{arith}
use Rattle.std.proofs.lemmas.Grind.{common_steps}
use lib.Ieee.{of_bits, of_int}
use Rattle.math_numbers.specs.Numbers.{positive}
use Rattle.math_numbers.proofs.is_positive.Goals as goal

pub returns-then-is_finite : goal.returns-then-is_finite
unfolding positive of_int of_bits
returns-then-is_finite c = grind (arith, common_steps)

pub returns-else-is_finite : goal.returns-else-is_finite
unfolding positive
returns-else-is_finite c = grind (arith, common_steps)
