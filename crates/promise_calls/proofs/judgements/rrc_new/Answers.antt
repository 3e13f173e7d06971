-- `promise_calls::judgements::rrc_new` meets its contract: what its export ensures, by demand 1. Assumes nothing.
use Rattle.fir_rrc.specs.Rrc.{rrc_of, outcome_of}
use Rattle.promise_refusals.specs.Judgements.{rrc_listed}
use Rattle.promise_refusals.proofs.ListedLaws.{numbered, outcome_heard}
use Rattle.verdict.specs.Outcome.{answered}
use Rattle.verdict.specs.declared.Report.{Report}
use mathlib.Core.Path.{ap, ◌∙◌}
use Rattle.promise_calls.proofs.judgements.rrc_new.Goals as goal

pub returns : goal.returns
returns c =
    let a = c.args in
    let d = outcome_of (rrc_of a.rolloff a.samples a.span) in
    numbered (answered d) (ap (λ (r : Report). r.number) c.pel_rrc_new.ensures ∙ outcome_heard d) (rrc_listed a.rolloff a.samples a.span)
