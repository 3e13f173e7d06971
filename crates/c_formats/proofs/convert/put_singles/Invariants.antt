-- `c_formats::convert::put_singles` meets its contract. The loop's invariant is that of `put_elements`. Assumes
-- nothing.
use Prim.Native.Nat.{◌-◌, ◌/◌, ◌≤◌}
use lib.ListN.{length}
use Rattle.c_formats.specs.Format.{Format}
use Rattle.c_formats.specs.ConversionLaws.{Reached}
use Rattle.c_formats.proofs.convert.put_singles.Given as goal

abbrev pub invariant-loop-i : goal.invariant-loop-i
invariant-loop-i l = (l.i ≤ length l.src / 8) × Reached Format.Single l.src l.initial.out l.i l.out

abbrev pub decreases-loop-i : goal.decreases-loop-i
decreases-loop-i l = length l.words - l.i
