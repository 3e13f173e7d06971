-- `promise_calls::judgements::lowpass_new` meets its contract: what its export ensures, by demand 1. Assumes nothing.
use Rattle.ticket_codes.specs.Codes.{window_of}
use Rattle.c_lowpass.specs.Lowpass.{lowpass_coded}
use Rattle.fir_lowpass.specs.Lowpass.{outcome_of}
use Rattle.promise_refusals.specs.Exports.{lowpass_coded_lem}
use Rattle.promise_refusals.proofs.ListedLaws.{numbered, outcome_heard}
use Rattle.verdict.specs.Outcome.{answered}
use Rattle.verdict.specs.declared.Report.{Report}
use mathlib.Core.Path.{ap, ◌∙◌}
use Rattle.promise_calls.proofs.judgements.lowpass_new.Goals as goal

pub returns : goal.returns
returns c =
    let a = c.args in
    let d = outcome_of (lowpass_coded a.cutoff a.rate (window_of a.window a.beta) a.taps) in
    numbered (answered d) (ap (λ (r : Report). r.number) c.pel_lowpass_new.ensures ∙ outcome_heard d) (lowpass_coded_lem a.cutoff a.rate (window_of a.window a.beta) a.taps)
