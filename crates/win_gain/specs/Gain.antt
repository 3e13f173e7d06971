-- The coherent gain of a window and its noise-equivalent bandwidth in bins. Definitions only.
--   Σ w / n  and  n Σ w² / (Σ w)²;  none of either for no samples
use Rattle.std.specs.Prelude.{ℕ, cond, List, length, ◌==◌, slice_index_or, Float}
use Rattle.std.specs.Float.{nan, binary64}
use Rattle.laws.specs.Binary64.{◌⊗◌, ◌⊘◌, whole}
use Rattle.laws.specs.Sums.{sum_to}
use Rattle.win_gain.specs.declared.Gain.{Gain}

-- of n samples with these sums
unfoldable pub summed : ℕ → Float → Float → Gain
summed n sum squares = cond (n == 0) (record { gain = whole 0; bandwidth = whole 0 }) (record { gain = sum ⊘ whole n; bandwidth = whole n ⊗ squares ⊘ (sum ⊗ sum) })

-- both sums by rising index
unfoldable pub gain_of : List Float → Gain
unfolding summed
gain_of w = summed (length w) (sum_to binary64 (λ i. slice_index_or w i nan) (length w)) (sum_to binary64 (λ i. slice_index_or w i nan ⊗ slice_index_or w i nan) (length w))
