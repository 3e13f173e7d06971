-- `fir_gaussian::gaussian_design::total` meets its contract. The loop's invariant: the sum of the taps so far, and the
-- first of them kept. Assumes nothing.
use Rattle.std.proofs.Common.{◌≡◌, length}
use Rattle.fir_cache.specs.Cached.{SumCached}
use Rattle.fir_gaussian.specs.Gaussian.{raw_at}
use Rattle.fir_gaussian.proofs.gaussian_design.total.Given as goal

abbrev pub invariant-loop-i : goal.invariant-loop-i
invariant-loop-i l = (length l.raws ≡ length l.initial.raws) × SumCached (raw_at l.a l.sps l.mid) l.i l.sum l.raws
