-- `promise_calls::lengths::delay` meets its contract: what its export ensures, by demand 1 and since the half is kept.
-- Assumes nothing.
use Rattle.fir_delay.specs.Delay.{delay_of}
use Rattle.c_math.specs.Delays.{KeepsHalf, half_kept}
use Rattle.promise_refusals.specs.Judgements.{delay_listed}
use Rattle.promise_refusals.proofs.ListedLaws.{numbered, delay_heard}
use Rattle.promise_refusals.specs.Verdicts.{of_delay}
use Rattle.verdict.specs.declared.Report.{Report}
use mathlib.Core.Path.{sym, ap, ◌∙◌, subst}
use Rattle.promise_calls.proofs.lengths.delay.Goals as goal

pub returns : goal.returns
returns c =
    let a = c.args in
    let d = delay_of a.taps in
    let number = ap (λ (r : Report). r.number) c.pel_delay.ensures ∙ delay_heard d in
    record { numbered = numbered (of_delay d) number (delay_listed a.taps); keeps_half = subst (KeepsHalf a.taps) (sym c.pel_delay.ensures) (half_kept a.taps) }
