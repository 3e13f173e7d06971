-- `c_pulses::cosine::pel_rrc_new` meets its contract. Assumes nothing.
use Rattle.std.specs.Prelude.{Result}
use mathlib.Core.Path.{ap, ◌∙◌}
use Rattle.verdict.specs.declared.Refusal.{Refusal}
use Rattle.verdict.specs.Reports.{outcome_report}
use Rattle.fir_rrc.specs.Rrc.{outcome_of}
use Rattle.fir_rrc.specs.declared.design.Rrc.{Rrc}
use Rattle.c_pulses.proofs.cosine.pel_rrc_new.Goals as goal

pub returns : goal.returns
returns c = c.told.ensures ∙ ap (λ (d : Result Rrc Refusal). outcome_report (outcome_of d)) c.new.ensures
