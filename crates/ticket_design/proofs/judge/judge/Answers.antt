-- `ticket_design::judge::judge` meets its contract, a kind at a time. Assumes nothing.
use Rattle.ticket_design.specs.OwnLaws.{judged_lowpass, judged_spec, judged_halfband, judged_gaussian, judged_rrc, judged_channelizer}
use Rattle.ticket_design.proofs.judge.judge.Goals as goal

pub returns-in-Lowpass : goal.returns-in-Lowpass
returns-in-Lowpass c = rw (c.in-Lowpass.is, judged_lowpass c.in-Lowpass.l, ← c.window_for-w.ensures, ← c.float_of-cutoff.ensures, ← c.float_of-rate.ensures, ← c.new.ensures) c.judged.ensures

pub returns-in-Spec : goal.returns-in-Spec
returns-in-Spec c = rw (c.in-Spec.is, judged_spec c.in-Spec.s, ← c.spec_for-spec.ensures, ← c.float_of-rate-in-Spec.ensures, ← c.lowpass.ensures) c.judged-in-Spec.ensures

pub returns-in-Halfband : goal.returns-in-Halfband
returns-in-Halfband c = rw (c.in-Halfband.is, judged_halfband c.in-Halfband.h, ← c.float_of-beta.ensures, ← c.new-in-Halfband.ensures) c.judged-in-Halfband.ensures

pub returns-in-Gaussian : goal.returns-in-Gaussian
returns-in-Gaussian c = rw (c.in-Gaussian.is, judged_gaussian c.in-Gaussian.g, ← c.float_of-bt.ensures, ← c.new-in-Gaussian.ensures) c.judged-in-Gaussian.ensures

pub returns-in-Rrc : goal.returns-in-Rrc
returns-in-Rrc c = rw (c.in-Rrc.is, judged_rrc c.in-Rrc.r, ← c.float_of-rolloff.ensures, ← c.new-in-Rrc.ensures) c.judged-in-Rrc.ensures

pub returns-in-Channelizer : goal.returns-in-Channelizer
returns-in-Channelizer c = rw (c.in-Channelizer.is, judged_channelizer c.in-Channelizer.c, ← c.float_of-passband.ensures, ← c.float_of-stopband.ensures, ← c.float_of-attenuation.ensures, ← c.channelizer_lowpass.ensures) c.judged-in-Channelizer.ensures
