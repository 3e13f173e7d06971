-- `ticket_slices::prototype::channelizer_prototype` meets its contract. Assumes nothing.
use Rattle.fir_lowpass.proofs.LowpassLaws.{fills_as}
use Rattle.ticket_slices.proofs.prototype.channelizer_prototype.Goals as goal

pub returns : goal.returns
returns c = fills_as c.fitted-designed.ensures.is c.finish.ensures
