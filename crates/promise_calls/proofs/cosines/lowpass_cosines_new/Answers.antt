-- `promise_calls::cosines::lowpass_cosines_new` meets its contract: what its export ensures, by demand 1. Assumes
-- nothing.
use Rattle.std.specs.Prelude.{Some}
use mathlib.Core.Path.{ap, ◌∙◌}
use Rattle.verdict.specs.Outcome.{answered}
use Rattle.verdict.specs.declared.Report.{Report}
use Rattle.fir_sinc.specs.declared.window.Window.TheVariants.{Cosines}
use Rattle.fir_lowpass.specs.Lowpass.{outcome_of}
use Rattle.c_lowpass.specs.Lowpass.{lowpass_coded}
use Rattle.promise_refusals.specs.Exports.{lowpass_coded_lem}
use Rattle.promise_refusals.proofs.ListedLaws.{numbered, outcome_heard}
use Rattle.promise_calls.proofs.cosines.lowpass_cosines_new.Goals as goal

pub returns : goal.returns
returns c =
    let a = c.args in
    let v = Some (Cosines a.window) in
    let d = outcome_of (lowpass_coded a.cutoff a.rate v a.taps) in
    numbered (answered d) (ap (λ (r : Report). r.number) c.pel_lowpass_cosines_new.ensures ∙ outcome_heard d) (lowpass_coded_lem a.cutoff a.rate v a.taps)
