-- `c_lowpass::spec::pel_spec_lowpass` meets its contract. Assumes nothing.
use Rattle.std.specs.Prelude.{Result}
use mathlib.Core.Path.{ap, ◌∙◌}
use Rattle.fir_lowpass.specs.Lowpass.{outcome_of}
use Rattle.verdict.specs.Reports.{outcome_report}
use Rattle.c_lowpass.proofs.spec.pel_spec_lowpass.Goals as goal
use Rattle.verdict.specs.declared.Refusal.{Refusal}
use Rattle.fir_lowpass.specs.declared.lowpass.Lowpass.{Lowpass}

pub returns : goal.returns
returns c = c.told.ensures ∙ ap (λ (d : Result Lowpass Refusal). outcome_report (outcome_of d)) c.lowpass.ensures
