-- `win_gain::window_gain` meets its contract. The loop's invariant: both sums so far. Assumes nothing.
use Rattle.std.proofs.Common.{◌≡◌, ℕ, ◌-◌, ◌≤◌, List, length, get_or}
use lib.Ieee.{Float, nan, binary64}
use Rattle.laws.specs.Binary64.{◌⊗◌}
use Rattle.laws.specs.Sums.{sum_to}
use Rattle.win_gain.proofs.window_gain.Given as goal

-- a sample, and its square
abbrev pub sample : List Float → ℕ → Float
sample w i = get_or w i nan

abbrev pub square : List Float → ℕ → Float
square w i = get_or w i nan ⊗ get_or w i nan

abbrev pub invariant-loop-i : goal.invariant-loop-i
invariant-loop-i l = (l.i ≤ length l.w) × (l.sum ≡ sum_to binary64 (sample l.w) l.i) × (l.squares ≡ sum_to binary64 (square l.w) l.i)

abbrev pub decreases-loop-i : goal.decreases-loop-i
decreases-loop-i l = length l.w - l.i
