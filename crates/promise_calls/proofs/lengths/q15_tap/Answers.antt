-- `promise_calls::lengths::q15_tap` meets its contract: what its export ensures, by demand 1. Assumes nothing.
use Rattle.fmt_q15.specs.Q15.{q15_tap_of}
use Rattle.promise_refusals.specs.Judgements.{q15_listed}
use Rattle.promise_refusals.proofs.ListedLaws.{numbered, coded_heard}
use Rattle.promise_refusals.specs.Verdicts.{of_coded}
use Rattle.verdict.specs.declared.Report.{Report}
use mathlib.Core.Path.{ap, ◌∙◌}
use Rattle.promise_calls.proofs.lengths.q15_tap.Goals as goal

pub returns : goal.returns
returns c =
    let a = c.args in
    let d = q15_tap_of 0 a.tap in
    numbered (of_coded d) (ap (λ (r : Report). r.number) c.pel_q15_tap.ensures ∙ coded_heard d) (q15_listed 0 a.tap)
