-- `verdict::Report::accepted` meets its contract. Assumes nothing.
use Rattle.std.proofs.Common.{refl}
use lib.Ieee.{of_int, of_bits}
use Rattle.verdict.specs.Report.{accepted_of}
use Rattle.verdict.proofs.Report.accepted.Goals as goal

pub returns : goal.returns
unfolding accepted_of of_int of_bits
returns c = refl
