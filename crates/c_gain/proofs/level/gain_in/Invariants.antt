-- `c_gain::level::gain_in` meets its contract. The invariant of both loops: the two sums so far. Assumes nothing.
use mathlib.Core.Path.{◌≡◌}
use mathlib.Core.List.{List}
use Prim.Native.Nat.{ℕ, ◌-◌, ◌/◌, ◌≤◌}
use lib.ListN.{length, get_or}
use lib.Ieee.{Float, nan, binary64}
use Rattle.laws.specs.Binary64.{◌⊗◌}
use Rattle.laws.specs.Sums.{sum_to}
use Rattle.c_gain.specs.Level.{singles}
use Rattle.c_gain.proofs.level.gain_in.Given as goal

-- a sample, and its square
abbrev pub sample : List ℕ → ℕ → Float
sample s i = get_or (singles s) i nan

abbrev pub square : List ℕ → ℕ → Float
square s i = sample s i ⊗ sample s i

-- the first i samples are summed
pub record Summed (s : List ℕ) (i : ℕ) (sum squares : Float) : Type 0 where
  pub within : i ≤ length s / 4
  pub sum_is : sum ≡ sum_to binary64 (sample s) i
  pub squares_are : squares ≡ sum_to binary64 (square s) i

abbrev pub invariant-loop-i : goal.invariant-loop-i
invariant-loop-i l = Summed l.src l.i l.sum l.squares

abbrev pub decreases-loop-i : goal.decreases-loop-i
decreases-loop-i l = l.n - l.i

abbrev pub invariant-loop-k : goal.invariant-loop-k
invariant-loop-k l = Summed l.src l.k l.sum l.squares

abbrev pub decreases-loop-k : goal.decreases-loop-k
decreases-loop-k l = l.n - l.k
