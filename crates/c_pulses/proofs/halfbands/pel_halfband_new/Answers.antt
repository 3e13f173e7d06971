-- `c_pulses::halfbands::pel_halfband_new` meets its contract. Assumes nothing.
use Rattle.std.specs.Prelude.{Result}
use mathlib.Core.Path.{ap, ◌∙◌}
use Rattle.verdict.specs.declared.Refusal.{Refusal}
use Rattle.verdict.specs.Reports.{outcome_report}
use Rattle.fir_halfband.specs.Halfband.{outcome_of}
use Rattle.fir_halfband.specs.declared.HalfbandDesign.{HalfbandDesign}
use Rattle.c_pulses.proofs.halfbands.pel_halfband_new.Goals as goal

pub returns : goal.returns
returns c = c.told.ensures ∙ ap (λ (d : Result HalfbandDesign Refusal). outcome_report (outcome_of d)) c.new.ensures
