-- `fir_sinc::sum::rest_taken` meets its contract: one tap more a turn. Assumes nothing.
use Rattle.fir_sinc.specs.Taps.{raw_at}
use Rattle.fir_cache.specs.CachedLaws.{SumPrefix}
use Rattle.fir_sinc.proofs.sum.rest_taken.Given as goal

abbrev pub invariant-loop-i : goal.invariant-loop-i
invariant-loop-i l = SumPrefix (raw_at l.fc l.w l.i0 l.n) l.n l.initial.raws l.raws l.sum l.i
