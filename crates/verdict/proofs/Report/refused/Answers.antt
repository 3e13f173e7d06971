-- `verdict::Report::refused` meets its contract. Assumes nothing.
use Rattle.std.proofs.Common.{refl}
use lib.Ieee.{of_int, of_bits}
use Rattle.verdict.proofs.Report.refused.Goals as goal

-- the fields that are left out are those of `NOTHING`, whose zeros the code
-- writes as patterns and the contract as whole numbers: with both opened
-- they are the same, and so are the two records
pub returns : goal.returns
unfolding of_int of_bits
returns c = refl
