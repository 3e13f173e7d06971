-- `c_pulses::pulse::pel_gaussian_new` meets its contract. Assumes nothing.
use Rattle.std.specs.Prelude.{Result}
use mathlib.Core.Path.{ap, ◌∙◌}
use Rattle.verdict.specs.declared.Refusal.{Refusal}
use Rattle.verdict.specs.Reports.{outcome_report}
use Rattle.fir_gaussian.specs.Gaussian.{outcome_of}
use Rattle.fir_gaussian.specs.declared.gaussian_design.Gaussian.{Gaussian}
use Rattle.c_pulses.proofs.pulse.pel_gaussian_new.Goals as goal

pub returns : goal.returns
returns c = c.told.ensures ∙ ap (λ (d : Result Gaussian Refusal). outcome_report (outcome_of d)) c.new.ensures
