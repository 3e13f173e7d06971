-- `ticket_design::design::design` meets its contract, a kind at a time. Assumes nothing.
use Rattle.ticket_design.specs.Design.{ticket_outcome}
use Rattle.ticket_design.proofs.design.design.Goals as goal

pub returns-in-Lowpass : goal.returns-in-Lowpass
returns-in-Lowpass c = rw c.in-Lowpass.is c.design_lowpass.ensures

pub returns-in-Spec : goal.returns-in-Spec
unfolding ticket_outcome
returns-in-Spec c = rw (c.in-Spec.is, ← c.spec_for-spec.ensures, ← c.float_of-rate.ensures) c.put_spec.ensures

pub returns-in-Halfband : goal.returns-in-Halfband
returns-in-Halfband c = rw c.in-Halfband.is c.design_halfband.ensures

pub returns-in-Gaussian : goal.returns-in-Gaussian
unfolding ticket_outcome
returns-in-Gaussian c = rw (c.in-Gaussian.is, ← c.float_of-bt.ensures) c.put_gaussian.ensures

pub returns-in-Rrc : goal.returns-in-Rrc
unfolding ticket_outcome
returns-in-Rrc c = rw (c.in-Rrc.is, ← c.float_of-rolloff.ensures) c.put_rrc.ensures

pub returns-in-Channelizer : goal.returns-in-Channelizer
returns-in-Channelizer c = rw c.in-Channelizer.is c.design_channelizer.ensures
