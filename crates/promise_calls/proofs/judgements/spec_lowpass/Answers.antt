-- `promise_calls::judgements::spec_lowpass` meets its contract: what its export ensures, by demand 1. Assumes nothing.
use Rattle.c_lowpass.specs.Spec.{spec_of}
use Rattle.fir_lowpass.specs.Lowpass.{outcome_of}
use Rattle.fir_spec.specs.Spec.{spec_lowpass_of}
use Rattle.promise_refusals.specs.Judgements.{spec_lowpass_listed}
use Rattle.promise_refusals.proofs.ListedLaws.{numbered, outcome_heard}
use Rattle.verdict.specs.Outcome.{answered}
use Rattle.verdict.specs.declared.Report.{Report}
use mathlib.Core.Path.{ap, ◌∙◌}
use Rattle.promise_calls.proofs.judgements.spec_lowpass.Goals as goal

pub returns : goal.returns
returns c =
    let a = c.args in
    let d = outcome_of (spec_lowpass_of (spec_of a.cutoff a.transition a.attenuation) a.rate a.cap) in
    numbered (answered d) (ap (λ (r : Report). r.number) c.pel_spec_lowpass.ensures ∙ outcome_heard d) (spec_lowpass_listed (spec_of a.cutoff a.transition a.attenuation) a.rate a.cap)
