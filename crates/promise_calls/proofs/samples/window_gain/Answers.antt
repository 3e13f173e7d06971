-- `promise_calls::samples::window_gain` meets its contract: what its export ensures, by demand 1. Assumes nothing.
use mathlib.Core.Path.{ap, ◌∙◌}
use Rattle.c_gain.specs.declared.level.GainReport.{GainReport}
use Rattle.promise_refusals.specs.Judgements.{samples_listed}
use Rattle.promise_refusals.proofs.ListedLaws.{numbered, gain_heard}
use Rattle.promise_refusals.specs.Verdicts.{of_samples}
use Rattle.promise_calls.proofs.samples.window_gain.Goals as goal

pub returns : goal.returns
returns c =
    let s = c.args.src.now in
    numbered (of_samples s) (ap (λ (r : GainReport). r.number) c.pel_window_gain.ensures ∙ gain_heard s) (samples_listed s)
