-- `promise_calls::lengths::q14_from_f64` meets its contract: what its export ensures, by demand 1. Assumes nothing.
use Rattle.fmt_q14.specs.Q14.{q14_tap_of}
use Rattle.promise_refusals.specs.Judgements.{q14_listed}
use Rattle.promise_refusals.proofs.ListedLaws.{numbered, coded_heard}
use Rattle.promise_refusals.specs.Verdicts.{of_coded}
use Rattle.verdict.specs.declared.Report.{Report}
use mathlib.Core.Path.{ap, ◌∙◌}
use Rattle.promise_calls.proofs.lengths.q14_from_f64.Goals as goal

pub returns : goal.returns
returns c =
    let a = c.args in
    let d = q14_tap_of 0 a.x in
    numbered (of_coded d) (ap (λ (r : Report). r.number) c.pel_q14_from_f64.ensures ∙ coded_heard d) (q14_listed 0 a.x)
