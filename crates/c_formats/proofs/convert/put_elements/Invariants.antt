-- `c_formats::convert::put_elements` meets its contract. The loop's invariant: the elements so far are taken, and their
-- bytes stand at the front. Assumes nothing.
use Prim.Native.Nat.{◌-◌, ◌/◌, ◌≤◌}
use lib.ListN.{length}
use Rattle.c_formats.specs.ConversionLaws.{Reached}
use Rattle.c_formats.proofs.convert.put_elements.Given as goal

abbrev pub invariant-loop-i : goal.invariant-loop-i
invariant-loop-i g l = (l.i ≤ length l.src / 8) × Reached g.E.Element.format l.src l.initial.out l.i l.out

abbrev pub decreases-loop-i : goal.decreases-loop-i
decreases-loop-i g l = length l.words - l.i
