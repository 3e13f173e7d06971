-- What is told of each answer: one definition that gives number and values for each case. Definitions only.
use Rattle.std.specs.Prelude.{ℕ, Err, Ok, Result}
use Rattle.laws.specs.Binary64.{whole}
use Rattle.verdict.specs.declared.Report.{Report}
use Rattle.verdict.specs.Report.{report_of, accepted_of}
use Rattle.verdict.specs.declared.Judged.{Judged}
use Rattle.verdict.specs.Outcome.{Outcome}
use Rattle.verdict.specs.declared.Refusal.{Refusal}

-- taps
abbrev pub length_report : Result ℕ Refusal → Report
length_report (Ok n) = accepted_of n (whole 0)
length_report (Err why) = report_of why

-- taps, and the sum that they were divided by last
abbrev pub outcome_report : Outcome → Report
outcome_report (Outcome.Designed n sum tap) = accepted_of n sum
outcome_report (Outcome.Refused why) = report_of why

-- n elements, all of them done
abbrev pub done_report : ℕ → Result (Unit {0}) Refusal → Report
done_report n (Ok tt) = accepted_of n (whole 0)
done_report n (Err why) = report_of why

-- a judgement: the same as of the outcome that it is of
abbrev pub judged_report : Result Judged Refusal → Report
judged_report (Ok j) = accepted_of j.taps j.divisor
judged_report (Err why) = report_of why
