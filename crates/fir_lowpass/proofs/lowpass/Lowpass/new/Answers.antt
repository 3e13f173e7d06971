-- `fir_lowpass::lowpass::Lowpass::new` meets its contract. Assumes nothing.
use mathlib.Core.Path.{refl}
use Rattle.fir_lowpass.proofs.lowpass.Lowpass.new.Goals as goal

pub slice_bounds-prepare-end : goal.slice_bounds-prepare-end
slice_bounds-prepare-end c = refl

pub returns : goal.returns
returns c = c.prepare.ensures.is
