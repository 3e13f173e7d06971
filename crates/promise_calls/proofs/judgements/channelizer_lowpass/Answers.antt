-- `promise_calls::judgements::channelizer_lowpass` meets its contract: what its export ensures, by demand 1. Assumes nothing.
use Rattle.fir_channelizer.specs.Channelizer.{channelizer_lowpass_of}
use Rattle.fir_lowpass.specs.Lowpass.{outcome_of}
use Rattle.promise_refusals.specs.Judgements.{channelizer_listed}
use Rattle.promise_refusals.proofs.ListedLaws.{numbered, outcome_heard}
use Rattle.verdict.specs.Outcome.{answered}
use Rattle.verdict.specs.declared.Report.{Report}
use mathlib.Core.Path.{ap, ◌∙◌}
use Rattle.promise_calls.proofs.judgements.channelizer_lowpass.Goals as goal

pub returns : goal.returns
returns c =
    let a = c.args in
    let d = outcome_of (channelizer_lowpass_of a.channels a.branch a.passband a.stopband a.attenuation) in
    numbered (answered d) (ap (λ (r : Report). r.number) c.pel_channelizer_lowpass.ensures ∙ outcome_heard d) (channelizer_listed a.channels a.branch a.passband a.stopband a.attenuation)
