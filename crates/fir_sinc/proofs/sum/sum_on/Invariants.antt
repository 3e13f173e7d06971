-- `fir_sinc::sum::sum_on` meets its contract: one element more a turn. Assumes nothing.
use Prim.Native.Nat.{◌≤◌}
use Rattle.fir_cache.specs.Cached.{Adds}
use Rattle.fir_sinc.proofs.sum.sum_on.Given as goal

abbrev pub invariant-loop-i : goal.invariant-loop-i
invariant-loop-i l = (l.i ≤ l.n) × Adds l.list l.begun l.from l.sum l.i
