-- `iir_butterworth::butterworth_sos` meets its contract: what `judge` answers, and then the loop. Its invariant: the
-- sections so far stand at the front. Assumes nothing.
use mathlib.Core.Path.{◌≡◌}
use Prim.Native.Nat.{◌*◌, ◌≤◌, ◌-◌}
use Rattle.laws.specs.Filled.{filled}
use Rattle.iir_butterworth.specs.Butterworth.{coef_at}
use Rattle.iir_butterworth.proofs.butterworth_sos.Given as goal

abbrev pub invariant-loop-i : goal.invariant-loop-i
invariant-loop-i l = (l.i ≤ l.count) × (l.sos ≡ filled (5 * l.i) (coef_at l.response l.order l.cutoff l.rate) l.initial.sos)

abbrev pub decreases-loop-i : goal.decreases-loop-i
decreases-loop-i l = l.count - l.i
