-- `math_unity::is_within` meets its contract. Assumes nothing.
use Rattle.std.proofs.Common.{T, sym, subst}
use lib.Ieee.{of_bits}
use Rattle.math_unity.specs.Parts.{within_law}
use Rattle.math_unity.proofs.is_within.Goals as goal

pub returns : goal.returns
unfolding of_bits
returns c = within_law c.args.x (subst T (sym c.well_formed.0.1) tt)
