-- `fir_sinc::sum::summed` meets its contract. The invariant: the sum of the taps so far, the first of them kept, what
-- they are without their window, and the arguments of the next two. Assumes nothing.
use mathlib.Core.Path.{◌≡◌}
use Prim.Native.Nat.{◌+◌, ◌-◌}
use Rattle.win_shapes.specs.Steps.{argument_of}
use Rattle.fir_sinc.specs.StepLaws.{place_at, curve_of}
use Rattle.fir_sinc.specs.Taps.{ideal_at, raw_at}
use Rattle.fir_cache.specs.CachedLaws.{SumPrefix}
use Rattle.fir_sinc.specs.Pending.{Planned, Images}
use Rattle.fir_sinc.proofs.sum.summed.Given as goal

abbrev pub invariant-loop-i : goal.invariant-loop-i
invariant-loop-i l = Planned l.n l.front l.last l.half × SumPrefix (raw_at l.fc l.w l.i0 l.n) l.n l.initial.raws l.raws l.sum l.i × Images (ideal_at l.fc l.n) l.last l.i l.raws × (l.x ≡ argument_of (curve_of l.w) (place_at l.w l.n l.i)) × (l.y ≡ argument_of (curve_of l.w) (place_at l.w l.n (l.i + 1)))

abbrev pub decreases-loop-i : goal.decreases-loop-i
decreases-loop-i l = l.n - l.i
