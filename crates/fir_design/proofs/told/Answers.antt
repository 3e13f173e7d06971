-- `fir_design::told` meets its contract: what is told of a judgement is told of what it judges. Assumes nothing.
use Rattle.std.proofs.Common.{ap, ◌∙◌}
use Rattle.verdict.specs.OutcomeLaws.{judged_told}
use Rattle.verdict.specs.Reports.{judged_report}
use Rattle.fir_design.proofs.told.Goals as goal

pub returns : goal.returns
returns g c = c.from.ensures ∙ ap judged_report c.judged.ensures ∙ judged_told _
