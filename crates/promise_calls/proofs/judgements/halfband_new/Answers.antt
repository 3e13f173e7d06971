-- `promise_calls::judgements::halfband_new` meets its contract: what its export ensures, by demand 1. Assumes nothing.
use Rattle.fir_halfband.specs.Halfband.{halfband_of, outcome_of}
use Rattle.promise_refusals.specs.Judgements.{halfband_listed}
use Rattle.promise_refusals.proofs.ListedLaws.{numbered, outcome_heard}
use Rattle.verdict.specs.Outcome.{answered}
use Rattle.verdict.specs.declared.Report.{Report}
use mathlib.Core.Path.{ap, ◌∙◌}
use Rattle.promise_calls.proofs.judgements.halfband_new.Goals as goal

pub returns : goal.returns
returns c =
    let a = c.args in
    let d = outcome_of (halfband_of a.beta a.taps) in
    numbered (answered d) (ap (λ (r : Report). r.number) c.pel_halfband_new.ensures ∙ outcome_heard d) (halfband_listed a.beta a.taps)
