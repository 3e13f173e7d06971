-- `ticket_design::design::design_channelizer` meets its contract. Assumes nothing.
use Rattle.ticket_design.specs.Design.{ticket_outcome}
use Rattle.ticket_design.proofs.design.design_channelizer.Goals as goal

pub returns : goal.returns
unfolding ticket_outcome
returns c = rw (← c.float_of-passband.ensures, ← c.float_of-stopband.ensures, ← c.float_of-attenuation.ensures) c.put_prototype.ensures
