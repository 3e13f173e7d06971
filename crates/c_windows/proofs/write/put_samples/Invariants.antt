-- `c_windows::write::put_samples` meets its contract. The loop keeps the samples so far at the front of the buffer, and
-- the arguments of the next two. Assumes nothing.
use mathlib.Core.Path.{◌≡◌}
use mathlib.Core.List.{List}
use Prim.Native.Nat.{ℕ, ◌+◌, ◌/◌, ◌-◌, ◌≤◌}
use lib.ListN.{length}
use lib.Ieee.{Float}
use Rattle.win_shapes.specs.Steps.{argument_of}
use Rattle.win_sampled.specs.Shapes.{sample_at}
use Rattle.win_sampled.specs.SampleLaws.{place_at, curve_of}
use Rattle.wire.specs.WrittenPrefix.{WrittenPrefix}
use Rattle.c_windows.specs.declared.sample.Sample.{Sample}
use Rattle.c_windows.specs.Samples.{width_of, pattern_of}
use Rattle.c_windows.proofs.write.put_samples.Given as goal

-- the first i samples stand at the front of the buffer
pub record Filling (s : Sample) (x : ℕ → Float) (before now : List ℕ) (i : ℕ) : Type 0 where
  pub within : i ≤ length before / width_of s
  pub prefix : WrittenPrefix (width_of s) (Unit {0}) (λ k. pattern_of s (x k)) before i now

abbrev pub invariant-loop-i : goal.invariant-loop-i
invariant-loop-i l = Filling l.sample (sample_at l.shape l.i0 l.d) l.initial.out l.out l.i × (l.x ≡ argument_of (curve_of l.shape) (place_at l.shape l.d l.i)) × (l.y ≡ argument_of (curve_of l.shape) (place_at l.shape l.d (l.i + 1)))

abbrev pub decreases-loop-i : goal.decreases-loop-i
decreases-loop-i l = l.n - l.i
