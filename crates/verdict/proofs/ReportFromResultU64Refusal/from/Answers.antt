-- The report of a number of taps meets its contract. Assumes nothing.
use Rattle.std.proofs.Common.{sym, ap, ◌∙◌}
use lib.Ieee.{of_int, of_bits}
use Rattle.verdict.specs.Reports.{length_report}
use Rattle.verdict.proofs.ReportFromResultU64Refusal.from.Goals as goal

pub returns-in-Ok : goal.returns-in-Ok
unfolding of_int of_bits
returns-in-Ok c = c.accepted.ensures ∙ ap length_report (sym c.in-Ok.is)
