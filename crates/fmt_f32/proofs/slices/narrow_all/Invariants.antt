-- `fmt_f32::narrow_all` meets its contract. The loop's invariant: the f32s so far stand at the front. Assumes nothing.
use mathlib.Core.Bool.{true}
use Prim.Native.Nat.{◌≤◌, ◌-◌}
use Rattle.verdict.specs.ConvertsLaws.{Reached}
use Rattle.fmt_f32.specs.Single.{single_of}
use Rattle.fmt_f32.proofs.slices.narrow_all.Given as goal

abbrev pub invariant-loop-i : goal.invariant-loop-i
invariant-loop-i l = (l.i ≤ l.i-end) × Reached (λ x. true) single_of l.src l.initial.dst l.i l.dst

abbrev pub decreases-loop-i : goal.decreases-loop-i
decreases-loop-i l = l.i-end - l.i
