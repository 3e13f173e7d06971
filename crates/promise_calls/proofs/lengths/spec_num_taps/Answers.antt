-- `promise_calls::lengths::spec_num_taps` meets its contract: what its export ensures, by demand 1. Assumes nothing.
use Rattle.c_lowpass.specs.Spec.{spec_of}
use Rattle.fir_spec.specs.Spec.{num_taps_of}
use Rattle.promise_refusals.specs.Judgements.{num_taps_listed}
use Rattle.promise_refusals.proofs.ListedLaws.{numbered, length_heard}
use Rattle.promise_refusals.specs.Verdicts.{of_length}
use Rattle.verdict.specs.declared.Report.{Report}
use mathlib.Core.Path.{ap, ◌∙◌}
use Rattle.promise_calls.proofs.lengths.spec_num_taps.Goals as goal

pub returns : goal.returns
returns c =
    let a = c.args in
    let d = num_taps_of (spec_of a.cutoff a.transition a.attenuation) a.rate a.cap in
    numbered (of_length d) (ap (λ (r : Report). r.number) c.pel_spec_num_taps.ensures ∙ length_heard d) (num_taps_listed (spec_of a.cutoff a.transition a.attenuation) a.rate a.cap)
