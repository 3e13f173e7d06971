-- Laws of sums by rising index: two equal functions have one sum, and it is that of the list.
use Rattle.std.specs.Prelude.{◌≡◌, refl, List, ℕ, zero, suc, ◌+◌, ◌<◌, Float}
use Rattle.std.proofs.Common.{sym, ap, ◌∙◌, add-one, arith}
use Rattle.std.specs.Float.{Format, binary32, binary64}
use Rattle.std.specs.Float.Ieee.{add, of_bits}
use Rattle.laws.specs.Filled.{tabulate, tabulate_same}
use Rattle.laws.specs.Units.{nought}
use Rattle.laws.specs.SumError.{total}
use Rattle.laws.specs.Sums.{sum_to}

-- a loop from the front: before the first turn, and a turn more
pub sum_none : (f : Format) (g : ℕ → Float) → of_bits f 0 ≡ sum_to f g 0
unfolding sum_to
sum_none f g = refl

pub sum_more : (f : Format) (g : ℕ → Float) (n : ℕ) → add f (sum_to f g n) (g n) ≡ sum_to f g (n + 1)
unfolding sum_to
sum_more f g n = rw add-one

-- equal terms, equal sums
pub sum_below : (f : Format) (g h : ℕ → Float) (n : ℕ) → ((i : ℕ) → i < n → g i ≡ h i) → sum_to f g n ≡ sum_to f h n
unfolding sum_to
sum_below f g h zero e = refl
sum_below f g h (suc n) e = ap (λ (z : Float). add f z (g n)) (sum_below f g h n (λ i b. e i (omega arith))) ∙ ap (λ (z : Float). add f (sum_to f h n) z) (e n (omega arith))

-- ---- the same as a list's sum
from : (f : Format) (g : ℕ → Float) (k n : ℕ) → total f (sum_to f g k) (tabulate n (λ i. g (k + i))) ≡ sum_to f g (k + n)
unfolding sum_to total tabulate
from f g k zero = ap (λ (j : ℕ). sum_to f g j) (end k)
  where
    end : (k : ℕ) → k ≡ k + 0
    end k = omega arith
from f g k (suc n) =
    ap (λ (j : ℕ). total f (add f (sum_to f g k) (g j)) (tabulate n (λ i. g (k + suc i)))) (start k)
    ∙ ap (λ (l : List Float). total f (sum_to f g (suc k)) l) (tabulate_same n (λ i. g (k + suc i)) (λ i. g (suc k + i)) (λ i. ap g (shift k i)))
    ∙ from f g (suc k) n
    ∙ ap (λ (j : ℕ). sum_to f g j) (sym (shift k n))
  where
    start : (k : ℕ) → k + 0 ≡ k
    start k = omega arith

    shift : (k i : ℕ) → k + suc i ≡ suc k + i
    shift k i = omega arith

zero_is : (f : Format) → of_bits f 0 ≡ nought
unfolding of_bits
zero_is binary32 = refl
zero_is binary64 = refl

pub sum_of_list : (f : Format) (g : ℕ → Float) (n : ℕ) → total f nought (tabulate n g) ≡ sum_to f g n
unfolding sum_to
sum_of_list f g n =
    ap (λ (z : Float). total f z (tabulate n g)) (sym (zero_is f))
    ∙ ap (λ (l : List Float). total f (of_bits f 0) l) (tabulate_same n g (λ i. g (0 + i)) (λ i. ap g (first i)))
    ∙ from f g 0 n
    ∙ ap (λ (j : ℕ). sum_to f g j) (sym (first n))
  where
    first : (i : ℕ) → i ≡ 0 + i
    first i = omega arith
