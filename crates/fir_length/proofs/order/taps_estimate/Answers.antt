-- `fir_length::order::taps_estimate` meets its contract: the formula, worked out. Assumes nothing.
use mathlib.Core.Path.{refl}
use lib.Ieee.{of_bits, of_int, round}
use Rattle.fir_length.specs.Kaiser.{estimate}
use Rattle.fir_length.proofs.order.taps_estimate.Goals as goal

pub returns : goal.returns
unfolding estimate of_int of_bits round
returns c = refl
