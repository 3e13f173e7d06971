-- `fmt_f32::narrow_all` meets its contract. The loop's invariant: the f32s so far stand at the front. Assumes nothing.
use mathlib.Core.Path.{refl, ap}
use mathlib.Core.Bool.{true}
use native.Mathlib.Nat.{mod-one}
use native.Mathlib.Omega.{arith}
use lib.ListN.{set}
use lib.Ieee.{Float}
use Rattle.verdict.specs.ConvertsLaws.{same_count, all_taken, at_first, same_size, one_more, ends}
use Rattle.fmt_f32.specs.Single.{single_of}
use Rattle.fmt_f32.proofs.slices.narrow_all.Goals as goal

pub loop-i-init : goal.loop-i-init
loop-i-init c = (omega arith, at_first (λ x. true) single_of _ _)

pub offset_bounds-src-i : goal.offset_bounds-src-i
offset_bounds-src-i c = record { fits = omega (arith, c.well_formed.0.1) }

pub offset_bounds-dst-i : goal.offset_bounds-dst-i
offset_bounds-dst-i c = record { fits = omega (arith, c.well_formed.1.0.1) }

pub bounds-dst-i : goal.bounds-dst-i
bounds-dst-i c = omega (arith, same_size c.loop-i.invariant.1 (omega arith))

pub loop-i-preserved : goal.loop-i-preserved
loop-i-preserved c =
    let stored = ap (λ (v : Float). set c.loop-i.dst c.loop-i.i v) c.narrow.ensures in
    (omega arith, one_more c.loop-i.invariant.1 (omega arith) (omega arith) refl stored)

pub shape_of-dst : goal.shape_of-dst
shape_of-dst c = same_size c.loop-i.invariant.1 (omega arith)

pub returns : goal.returns
returns c = ends c.loop-i.invariant.1 (same_count 1 _ _ (mod-one _) (omega arith)) (all_taken c.loop-i.invariant.1.taken (omega arith))
