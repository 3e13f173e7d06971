-- `fir_channelizer::channelizer_lowpass` meets its contract. Assumes nothing.
use Rattle.fir_channelizer.proofs.channelizer_lowpass.Goals as goal

pub returns : goal.returns
returns c = c.prepare.ensures.is
