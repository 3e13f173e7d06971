-- `fir_halfband::total` meets its contract. The loop's invariant: the sum of the taps so far. Assumes nothing.
use mathlib.Core.Path.{◌≡◌}
use lib.Ieee.{binary64}
use Rattle.laws.specs.Sums.{sum_to}
use Rattle.fir_lowpass.specs.Cached.{Caches}
use Rattle.fir_halfband.specs.Halfband.{unscaled}
use Rattle.fir_halfband.proofs.total.Given as goal

abbrev pub invariant-loop-k : goal.invariant-loop-k
invariant-loop-k l = Caches l.lp l.raws → l.sum ≡ sum_to binary64 (unscaled l.lp l.n) l.k
