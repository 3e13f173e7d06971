-- `promise_calls::lengths::halfband_len` meets its contract: what its export ensures, by demand 1. Assumes nothing.
use Rattle.fir_length.specs.Kaiser.{halfband_len_of}
use Rattle.promise_refusals.specs.Judgements.{halfband_len_listed}
use Rattle.promise_refusals.proofs.ListedLaws.{numbered, length_heard}
use Rattle.promise_refusals.specs.Verdicts.{of_length}
use Rattle.verdict.specs.declared.Report.{Report}
use mathlib.Core.Path.{ap, ◌∙◌}
use Rattle.promise_calls.proofs.lengths.halfband_len.Goals as goal

pub returns : goal.returns
returns c =
    let a = c.args in
    let d = halfband_len_of a.transition a.attenuation a.rate in
    numbered (of_length d) (ap (λ (r : Report). r.number) c.pel_halfband_len.ensures ∙ length_heard d) (halfband_len_listed a.transition a.attenuation a.rate)
