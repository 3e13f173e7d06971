-- `promise_calls::lengths::kaiserord` meets its contract: what its export ensures, by demand 1. Assumes nothing.
use Rattle.fir_length.specs.Kaiser.{order_of}
use Rattle.promise_refusals.specs.Judgements.{order_listed}
use Rattle.promise_refusals.proofs.ListedLaws.{numbered, order_heard}
use Rattle.promise_refusals.specs.Verdicts.{of_order}
use Rattle.verdict.specs.declared.Report.{Report}
use mathlib.Core.Path.{ap, ◌∙◌}
use Rattle.promise_calls.proofs.lengths.kaiserord.Goals as goal

pub returns : goal.returns
returns c =
    let a = c.args in
    let d = order_of a.ripple a.transition a.rate in
    numbered (of_order d) (ap (λ (r : Report). r.number) c.pel_kaiserord.ensures ∙ order_heard d) (order_listed a.ripple a.transition a.rate)
