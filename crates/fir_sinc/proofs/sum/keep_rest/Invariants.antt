-- `fir_sinc::sum::keep_rest` meets its contract: `PendingTap` goes through the loop. Assumes nothing.
use mathlib.Core.Path.{◌≡◌}
use Prim.Native.Nat.{◌≤◌}
use lib.ListN.{length}
use Rattle.fir_sinc.specs.Taps.{ideal_at, raw_at}
use Rattle.fir_sinc.specs.Pending.{PendingTap}
use Rattle.fir_sinc.proofs.sum.keep_rest.Given as goal

abbrev pub invariant-loop-i : goal.invariant-loop-i
invariant-loop-i l = (l.i ≤ l.n) × (length l.raws ≡ length l.initial.raws) × PendingTap (raw_at l.fc l.w l.i0 l.n) (ideal_at l.fc l.n) l.n l.half l.p l.i l.raws
