-- The report of a refusal meets its contract, a shape at a time. Assumes nothing.
use Rattle.std.proofs.Common.{sym}
use lib.Ieee.{of_int, of_bits}
use Rattle.verdict.specs.Report.{report_of}
use Rattle.verdict.proofs.ReportFromRefusal.from.Goals as goal

pub returns-in-Plain : goal.returns-in-Plain
unfolding report_of of_int of_bits
returns-in-Plain c = rw (c.refused.ensures, c.from.ensures) (sym (rw c.in-Plain.is))

pub returns-in-Range : goal.returns-in-Range
unfolding report_of of_int of_bits
returns-in-Range c = rw (c.out_of_range.ensures, c.from-in-Range.ensures) (sym (rw c.in-Range.is))

pub returns-in-Length : goal.returns-in-Length
unfolding report_of of_int of_bits
returns-in-Length c = sym (rw c.in-Length.is)

pub returns-in-Cap : goal.returns-in-Cap
unfolding report_of of_int of_bits
returns-in-Cap c = rw (c.nearest_u64_to_f64.ensures, c.nearest_u64_to_f64-in-Cap.ensures) (sym (rw c.in-Cap.is))

pub returns-in-Element : goal.returns-in-Element
unfolding report_of of_int of_bits
returns-in-Element c = sym (rw c.in-Element.is)
