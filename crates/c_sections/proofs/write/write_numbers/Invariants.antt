-- `c_sections::write::write_numbers` meets its contract. The loop's invariant: the first i numbers stand in the buffer, and
-- the rest is as it came. Assumes nothing.
use mathlib.Core.Path.{◌≡◌}
use Prim.Native.Nat.{◌-◌, ◌≤◌}
use lib.ListN.{get_or}
use lib.Ieee.{nan}
use Rattle.laws.specs.Chunks.{chunked}
use Rattle.wire.specs.Bytes.{float_bytes}
use Rattle.c_sections.proofs.write.write_numbers.Given as goal

abbrev pub invariant-loop-i : goal.invariant-loop-i
invariant-loop-i l = (l.i ≤ l.n) × (l.out ≡ chunked 8 l.i (λ k. float_bytes (get_or l.numbers k nan)) l.initial.out)

abbrev pub decreases-loop-i : goal.decreases-loop-i
decreases-loop-i l = l.n - l.i
