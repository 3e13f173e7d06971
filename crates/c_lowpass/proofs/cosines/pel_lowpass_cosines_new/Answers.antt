-- `c_lowpass::cosines::pel_lowpass_cosines_new` meets its contract. Assumes nothing.
use Rattle.std.specs.Prelude.{Result}
use mathlib.Core.Path.{ap, ◌∙◌}
use Rattle.verdict.specs.Reports.{outcome_report}
use Rattle.fir_lowpass.specs.Lowpass.{outcome_of}
use Rattle.c_lowpass.proofs.cosines.pel_lowpass_cosines_new.Goals as goal
use Rattle.verdict.specs.declared.Refusal.{Refusal}
use Rattle.fir_lowpass.specs.declared.lowpass.Lowpass.{Lowpass}

pub returns : goal.returns
returns c = c.told.ensures ∙ ap (λ (d : Result Lowpass Refusal). outcome_report (outcome_of d)) c.new.ensures
