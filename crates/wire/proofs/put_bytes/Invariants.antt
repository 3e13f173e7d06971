-- `wire::put_bytes` meets its contract. The loop's invariant: storing what is left gives what storing everything would
-- have given at first. Assumes nothing.
use mathlib.Core.Path.{◌≡◌}
use Prim.Native.Nat.{◌-◌, ◌≤◌}
use lib.ListN.{length}
use lib.Seq.{sets}
use Rattle.wire.specs.Bytes.{bytes_of}
use Rattle.wire.proofs.put_bytes.Given as goal

abbrev pub invariant-loop-i : goal.invariant-loop-i
invariant-loop-i l = (l.i ≤ l.end) × (l.end ≤ length l.initial.out) × (length l.out ≡ length l.initial.out) × (sets l.out l.i (bytes_of (l.end - l.i) l.rest) ≡ sets l.initial.out l.at (bytes_of l.width l.n))

abbrev pub decreases-loop-i : goal.decreases-loop-i
decreases-loop-i l = l.end - l.i
