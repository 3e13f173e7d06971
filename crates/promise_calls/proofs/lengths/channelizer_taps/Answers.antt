-- `promise_calls::lengths::channelizer_taps` meets its contract: what its export ensures, by demand 1. Assumes nothing.
use Rattle.fir_channelizer.specs.Channelizer.{channelizer_taps_of}
use Rattle.promise_refusals.specs.Judgements.{channelizer_taps_listed}
use Rattle.promise_refusals.proofs.ListedLaws.{numbered, length_heard}
use Rattle.promise_refusals.specs.Verdicts.{of_length}
use Rattle.verdict.specs.declared.Report.{Report}
use mathlib.Core.Path.{ap, ◌∙◌}
use Rattle.promise_calls.proofs.lengths.channelizer_taps.Goals as goal

pub returns : goal.returns
returns c =
    let a = c.args in
    let d = channelizer_taps_of a.channels a.passband a.stopband a.attenuation in
    numbered (of_length d) (ap (λ (r : Report). r.number) c.pel_channelizer_taps.ensures ∙ length_heard d) (channelizer_taps_listed a.channels a.passband a.stopband a.attenuation)
