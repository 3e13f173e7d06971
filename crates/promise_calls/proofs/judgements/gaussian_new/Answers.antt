-- `promise_calls::judgements::gaussian_new` meets its contract: what its export ensures, by demand 1. Assumes nothing.
use Rattle.fir_gaussian.specs.Gaussian.{gaussian_of, outcome_of}
use Rattle.promise_refusals.specs.Judgements.{gaussian_listed}
use Rattle.promise_refusals.proofs.ListedLaws.{numbered, outcome_heard}
use Rattle.verdict.specs.Outcome.{answered}
use Rattle.verdict.specs.declared.Report.{Report}
use mathlib.Core.Path.{ap, ◌∙◌}
use Rattle.promise_calls.proofs.judgements.gaussian_new.Goals as goal

pub returns : goal.returns
returns c =
    let a = c.args in
    let d = outcome_of (gaussian_of a.bt a.samples a.span) in
    numbered (answered d) (ap (λ (r : Report). r.number) c.pel_gaussian_new.ensures ∙ outcome_heard d) (gaussian_listed a.bt a.samples a.span)
