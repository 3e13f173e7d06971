-- `ticket_slices::half_band::halfband_taps` meets its contract: it fills a tap at a time, which agrees with the
-- definition's buffer. Assumes nothing.
use Rattle.ticket_slices.specs.Agree.{as_at_once}
use Rattle.ticket_slices.proofs.half_band.halfband_taps.Goals as goal

pub returns : goal.returns
returns c = as_at_once c.args.beta c.args.taps.now c.new-designed.result c.new-designed.ensures c.finish.ensures
