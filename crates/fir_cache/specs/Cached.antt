-- Values in a list, and their sum. Definitions only.
use Rattle.std.specs.Prelude.{ℕ, ◌<◌, ◌≡◌, List, length, get_or, Float}
use Rattle.std.specs.Float.{nan, binary64}
use Rattle.laws.specs.Sums.{sum_to}

-- a list keeps the first values of g, n at most, those that it has places for
abbrev pub CachesOf : (ℕ → Float) → ℕ → List Float → Type 0
CachesOf g n rs = (i : ℕ) → i < n → i < length rs → get_or rs i nan ≡ g i

-- a sum of n values, and a list that keeps the first of them
pub record SumCached (g : ℕ → Float) (n : ℕ) (sum : Float) (rs : List Float) : Type 0 where
  pub is : sum ≡ sum_to binary64 g n
  pub keeps : CachesOf g n rs

-- a sum goes on from `from` values to n by the elements of a list, whatever values that keeps
abbrev pub Adds : List Float → Float → ℕ → Float → ℕ → Type 0
Adds rs begun from sum n = (g : ℕ → Float) → begun ≡ sum_to binary64 g from → CachesOf g n rs → sum ≡ sum_to binary64 g n
