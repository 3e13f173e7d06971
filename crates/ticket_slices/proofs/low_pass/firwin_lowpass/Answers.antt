-- `ticket_slices::low_pass::firwin_lowpass` meets its contract. Assumes nothing.
use mathlib.Core.Path.{refl}
use Rattle.fir_lowpass.proofs.LowpassLaws.{fills_as}
use Rattle.ticket_slices.proofs.low_pass.firwin_lowpass.Goals as goal

pub slice_bounds-prepare-end : goal.slice_bounds-prepare-end
slice_bounds-prepare-end c = refl

pub returns : goal.returns
returns c = fills_as c.prepare-designed.ensures.is c.finish.ensures
