-- A list that keeps the first of n values, a store at a time, and their sum. Assumes nothing.
use Rattle.std.specs.Prelude.{◌≡◌, List, ℕ, ◌+◌, ◌<◌, ◌≤◌, length, get_or, set, Float}
use Rattle.std.proofs.Common.{sym, ap, ◌∙◌, subst, arith, length-set, get_or-set_same, get_or-set_other}
use Rattle.std.specs.Float.{nan, binary64}
use Rattle.std.specs.Float.Ieee.{of_bits, add}
use Rattle.laws.specs.Binary64.{◌⊕◌}
use Rattle.laws.specs.Cases.{either}
use Rattle.laws.specs.Numbers.{lt_or_le}
use Rattle.laws.proofs.SumsLaws.{sum_none, sum_more}
use Rattle.fir_cache.specs.Cached.{CachesOf, SumCached, Adds}

keeps_more : (g : ℕ → Float) (n : ℕ) (rs : List Float) (v : Float) → v ≡ g n → CachesOf g n rs → CachesOf g (n + 1) (set rs n v)
keeps_more g n rs v e k i h l =
    let m : i < length rs = omega (arith, length-set rs n v) in
    either (lt_or_le i n) (λ b. get_or-set_other rs n i v nan (λ (q : i ≡ n). omega arith) ∙ k i b m)
    (λ b. let q : i ≡ n = omega arith in ap (λ (j : ℕ). get_or (set rs n v) j nan) q ∙ get_or-set_same rs n v nan (omega arith) ∙ e ∙ ap g (sym q))

pub sum_cached_none : (g : ℕ → Float) (rs : List Float) → SumCached g 0 (of_bits binary64 0) rs
sum_cached_none g rs = record { is = sum_none binary64 g; keeps = λ i h l. absurd (omega arith) }

pub sum_cached_more : (g : ℕ → Float) (n : ℕ) (sum : Float) (rs : List Float) (v : Float) → v ≡ g n → SumCached g n sum rs → SumCached g (n + 1) (add binary64 sum v) (set rs n v)
sum_cached_more g n sum rs v e t =
    record {
      is = ap (λ (z : Float). add binary64 sum z) e ∙ ap (λ (z : Float). add binary64 z (g n)) t.is ∙ sum_more binary64 g n;
      keeps = keeps_more g n rs v e t.keeps;
    }

-- what a loop that takes n values up has after i of them: their sum, and the list that came, as long as it was, with
-- the first of them kept
pub record SumPrefix (g : ℕ → Float) (n : ℕ) (before raws : List Float) (sum : Float) (i : ℕ) : Type 0 where
  pub within : i ≤ n
  pub same : length raws ≡ length before
  pub summed : SumCached g i sum raws

module _ {g : ℕ → Float} {n : ℕ} {before raws : List Float} {sum : Float} {i : ℕ} (t : SumPrefix g n before raws sum i) where
  -- with one more
  pub taken : {v sum2 : Float} {raws2 : List Float} → i + 1 ≤ n → v ≡ g i → (sum2 ≡ sum ⊕ v) × (raws2 ≡ set raws i v) → SumPrefix g n before raws2 sum2 (i + 1)
  taken {v = v} l e f =
      record {
        within = l;
        same = ap length f.1 ∙ length-set raws i v ∙ t.same;
        summed = rw (f.0, f.1) (sum_cached_more g i sum raws v e t.summed);
      }

  -- with all of them
  pub all : n ≤ i → SumCached g n sum raws
  all l = let e : i ≡ n = omega (arith, t.within) in subst (λ (k : ℕ). SumCached g k sum raws) e t.summed

-- a sum that goes on by one element of a list more
pub adds_more : (rs : List Float) (begun sum : Float) (from n : ℕ) → Adds rs begun from sum n → n < length rs → Adds rs begun from (sum ⊕ get_or rs n nan) (n + 1)
adds_more rs begun sum from n a l g e k =
    ap (λ (z : Float). sum ⊕ z) (k n (omega arith) l) ∙ ap (λ (z : Float). z ⊕ g n) (a g e (λ i h. k i (omega arith))) ∙ sum_more binary64 g n
