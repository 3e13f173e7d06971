-- `promise_calls::lengths::rrc_len` meets its contract: what its export ensures, by demand 1. Assumes nothing.
use Rattle.fir_rrc.specs.Rrc.{rrc_len_of}
use Rattle.promise_refusals.specs.Judgements.{rrc_len_listed}
use Rattle.promise_refusals.proofs.ListedLaws.{numbered, length_heard}
use Rattle.promise_refusals.specs.Verdicts.{of_length}
use Rattle.verdict.specs.declared.Report.{Report}
use mathlib.Core.Path.{ap, ◌∙◌}
use Rattle.promise_calls.proofs.lengths.rrc_len.Goals as goal

pub returns : goal.returns
returns c =
    let a = c.args in
    let d = rrc_len_of a.samples a.span in
    numbered (of_length d) (ap (λ (r : Report). r.number) c.pel_rrc_len.ensures ∙ length_heard d) (rrc_len_listed a.samples a.span)
