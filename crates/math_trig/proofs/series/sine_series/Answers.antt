-- `math_trig::series::sine_series` meets its contract: the definition, worked out. Assumes nothing.
use mathlib.Core.Path.{refl}
use lib.Ieee.{of_bits, of_int, neg, div}
use Rattle.laws.specs.Binary64.{fact, over, nested}
use Rattle.math_trig.specs.Trig.{sine_terms, sine_series}
use Rattle.math_trig.proofs.series.sine_series.Goals as goal

pub returns : goal.returns
unfolding sine_series sine_terms nested over fact of_int of_bits neg div
returns c = refl
