-- `fir_sinc::tap::raw_at` meets its contract. Assumes nothing.
use mathlib.Core.Path.{refl}
use Rattle.fir_sinc.specs.Taps.{raw_at}
use Rattle.fir_sinc.proofs.tap.raw_at.Goals as goal

pub returns : goal.returns
unfolding raw_at
returns c = rw (c.ideal_at.ensures, c.window_at.ensures) refl
