-- `ticket_slices::spec::design` meets its contract. Assumes nothing.
use mathlib.Core.Path.{refl}
use Rattle.fir_lowpass.proofs.LowpassLaws.{fills_as}
use Rattle.ticket_slices.proofs.spec.design.Goals as goal

pub slice_bounds-spec_prepare-end : goal.slice_bounds-spec_prepare-end
slice_bounds-spec_prepare-end c = refl

pub returns : goal.returns
returns c = fills_as c.spec_prepare-designed.ensures.is c.finish.ensures
