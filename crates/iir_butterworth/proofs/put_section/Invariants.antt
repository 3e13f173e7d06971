-- `iir_butterworth::put_section` meets its contract. The loop's invariant: the first numbers are stored. Assumes
-- nothing.
use mathlib.Core.Path.{◌≡◌}
use Prim.Native.Nat.{◌≤◌, ◌-◌}
use lib.ListN.{take}
use lib.Seq.{sets}
use Rattle.iir_butterworth.proofs.put_section.Given as goal

abbrev pub invariant-loop-j : goal.invariant-loop-j
invariant-loop-j l = (l.j ≤ 5) × (l.sos ≡ sets l.initial.sos l.at (take l.j l.coefs))

abbrev pub decreases-loop-j : goal.decreases-loop-j
decreases-loop-j l = 5 - l.j
