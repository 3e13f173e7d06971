-- `fir_channelizer::fitted` meets its contract. Assumes nothing.
use Rattle.fir_design.specs.DesignsLaws.{prepares_fitted}
use Rattle.fir_lowpass.specs.declared.lowpass.Lowpass.{Lowpass}
use Rattle.fir_channelizer.proofs.fitted.Goals as goal

-- the buffer's length is held to the design as it was prepared, so that
-- what was prepared is cited, and then what comes of it for the buffer
pub returns : goal.returns
returns c = prepares_fitted (λ (l : Lowpass). l.n) c.args.len c.prepare-designed.ensures c.fitted.ensures
