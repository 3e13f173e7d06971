-- `ticket_slices::rrc::rrc` meets its contract. Assumes nothing.
use Rattle.std.proofs.Common.{ap}
use Rattle.verdict.specs.OutcomeLaws.{fills_as}
use Rattle.fir_rrc.specs.Rrc.{outcome_of}
use Rattle.ticket_slices.proofs.rrc.rrc.Goals as goal

pub returns : goal.returns
returns c = fills_as (ap outcome_of c.fitted-designed.ensures) c.finish.ensures
