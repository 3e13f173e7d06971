-- The digit by digit comparison decides what the definition asks, and is what the code does turn by turn. Assumes
-- nothing.
use Rattle.std.specs.Prelude.{◌≡◌, ℕ, zero, suc, ◌+◌, ◌-◌, ◌*◌, ◌^◌, ◌<◌, ◌≤◌, min, Bool, true, false, ◌&&◌, T, ◌⊎◌, List, [], ◌∷◌, length, get_or, ℤ, pos, negsuc, ◌-ℤ◌, neg_ℤ, nat_le, unsigned_abs, refl, Float}
use Rattle.std.proofs.Common.{sym, ap, ◌∙◌, subst, inl, inr, le_trans, le_of_eq, mul_assoc, zero-add, add-zero, arith, le-leb, lit≤, lit<}
use Rattle.std.proofs.lemmas.Bool.{lt-leb}
use Rattle.std.specs.Float.{nan, Format, binary64}
use Rattle.std.specs.Float.Ieee.{fits}
use Rattle.laws.specs.Numbers.{lt_or_le}
use Rattle.laws.specs.SumError.{sum_of}
use Rattle.laws.specs.Tests.{both}
use Rattle.laws.specs.Totals.{Is, is_add, is_neg_lem, is_sum, units, sum_z}
use Rattle.laws.specs.Units.{mag, plus, less}
use Rattle.math_unity.specs.Cut.{Size, Rest, digit_of, rest_of, cut_f64}
use Rattle.math_unity.specs.Run.{All, Ends, pw, each_of, run_of, all_keep, all_end, each_length, sums_cut, run_is, decided_no, decided_yes, upper, lower}
use Rattle.math_unity.specs.Unity.{within, all_within, near_one, five}
use Rattle.math_unity.specs.Digits.{pos_of, neg_of, run, near_run}
use Rattle.math_unity.specs.Parts.{Held, pos_sizes, neg_sizes, pos_sum, neg_sum}

-- ---- a turn
cut_rest : (x : Float) → Size binary64 x → Rest binary64 (rest_of x)
cut_rest x X = record { size = (cut_f64 x X).rest; under = (cut_f64 x X).under }

pub rests_of : (p p' : List Float) → All (Size binary64) p → p' ≡ each_of rest_of p → All (Rest binary64) p'
rests_of p p' a e = subst (All (Rest binary64)) (sym e) (all_keep rest_of (Size binary64) (Rest binary64) cut_rest p a)

pub sizes_of : (p : List Float) → All (Rest binary64) p → All (Size binary64) p
sizes_of [] a = tt
sizes_of (x ∷ xs) a = (a.0.size, sizes_of xs a.1)

pub run_turn : (k : ℕ) (p n p' n' : List Float) (a b a' b' : ℕ) → 1 ≤ k → p' ≡ each_of rest_of p → n' ≡ each_of rest_of n → a' ≡ min (a - b) 6 * 1125899906842624 + sum_of digit_of p → b' ≡ min (b - a) 6 * 1125899906842624 + sum_of digit_of n → run (k - 1) p' n' a' b' ≡ run k p n a b
unfolding run run_of
run_turn zero p n p' n' a b a' b' h e e' g g' = absurd (omega arith)
run_turn (suc k) p n p' n' a b a' b' h e e' g g' = let z : suc k - 1 ≡ k = omega arith in ap (λ (v : ℕ). run v p' n' a' b') z ∙ rw (e, e', g, g') refl

-- with k turns of j done: none is left, or one is taken
pub run_end : (k j : ℕ) (p n : List Float) (a b : ℕ) → j ≤ k → nat_le a b ≡ run (j - k) p n a b
unfolding run run_of
run_end k j p n a b h = sym (ap (λ (v : ℕ). run v p n a b) (over k j h))
  where
    over : (k j : ℕ) → j ≤ k → j - k ≡ 0
    over k j h = omega arith

pub run_on : (k j : ℕ) (p n p' n' : List Float) (a b a' b' : ℕ) → k < j → p' ≡ each_of rest_of p → n' ≡ each_of rest_of n → a' ≡ min (a - b) 6 * 1125899906842624 + sum_of digit_of p → b' ≡ min (b - a) 6 * 1125899906842624 + sum_of digit_of n → run (j - (k + 1)) p' n' a' b' ≡ run (j - k) p n a b
run_on k j p n p' n' a b a' b' l e e' g g' =
    ap (λ (v : ℕ). run v p' n' a' b') (next k j l) ∙ run_turn (j - k) p n p' n' a b a' b' (omega arith) e e' g g'
  where
    next : (k j : ℕ) → k < j → j - (k + 1) ≡ j - k - 1
    next k j l = omega arith

-- one side is ahead by 6
module _ (k : ℕ) (p n : List Float) (a b : ℕ) (P : All (Rest binary64) p) (N : All (Rest binary64) n) where
  pub ahead_no : length n ≤ 5 → min (a - b) 6 ≡ 6 → false ≡ run k p n a b
  unfolding run
  ahead_no l e = sym (decided_no digit_of rest_of (2 ^ 50) (lit≤ tt) (Rest binary64) (λ x r. (cut_f64 x r.size).small) (λ x r. cut_rest x r.size) k p n a b P N l (omega arith))

  pub ahead_yes : length p ≤ 5 → min (b - a) 6 ≡ 6 → true ≡ run k p n a b
  unfolding run
  ahead_yes l e = sym (decided_yes digit_of rest_of (2 ^ 50) (lit≤ tt) (Rest binary64) (λ x r. (cut_f64 x r.size).small) (λ x r. cut_rest x r.size) k p n a b P N l (omega arith))

-- what stands with k turns to go, of 21
pub record Going (p₀ n₀ : List Float) (a₀ b₀ k : ℕ) (p n : List Float) (a b : ℕ) : Type 0 where
  pub ps : All (Rest binary64) p
  pub ns : All (Rest binary64) n
  pub same : run k p n a b ≡ run 21 p₀ n₀ a₀ b₀

pub going_sizes : {p₀ n₀ : List Float} {a₀ b₀ k : ℕ} {p n : List Float} {a b : ℕ} → Going p₀ n₀ a₀ b₀ k p n a b → All (Size binary64) p × All (Size binary64) n
going_sizes {p = p} {n = n} h = (sizes_of p h.ps, sizes_of n h.ns)

pub going : {p₀ n₀ : List Float} {a₀ b₀ k : ℕ} {p n : List Float} {a b : ℕ} {p' n' : List Float} {a' b' : ℕ} → Going p₀ n₀ a₀ b₀ k p n a b → 1 ≤ k → p' ≡ each_of rest_of p → n' ≡ each_of rest_of n
    → a' ≡ min (a - b) 6 * 1125899906842624 + sum_of digit_of p → b' ≡ min (b - a) 6 * 1125899906842624 + sum_of digit_of n → Going p₀ n₀ a₀ b₀ (k - 1) p' n' a' b'
going {p₀} {n₀} {a₀} {b₀} {k} {p} {n} {a} {b} {p'} {n'} {a'} {b'} h l e e' g g' = record { ps = rests_of p p' (sizes_of p h.ps) e; ns = rests_of n n' (sizes_of n h.ns) e'; same = run_turn k p n p' n' a b a' b' l e e' g g' ∙ h.same }

pub going_end : {p₀ n₀ : List Float} {a₀ b₀ k : ℕ} {p n : List Float} {a b : ℕ} → Going p₀ n₀ a₀ b₀ k p n a b → k ≡ 0 → nat_le a b ≡ run 21 p₀ n₀ a₀ b₀
unfolding run run_of
going_end {k = k} {p} {n} {a} {b} h e = sym (ap (λ (v : ℕ). run v p n a b) e) ∙ h.same

pub going_no : {p₀ n₀ : List Float} {a₀ b₀ k : ℕ} {p n : List Float} {a b : ℕ} → Going p₀ n₀ a₀ b₀ k p n a b → length n ≤ 5 → (d : ℕ) → d ≡ min (a - b) 6 → d ≡ 6 → false ≡ run 21 p₀ n₀ a₀ b₀
going_no {k = k} {p} {n} {a} {b} h l d e g = ahead_no k p n a b h.ps h.ns l (sym e ∙ g) ∙ h.same

pub going_yes : {p₀ n₀ : List Float} {a₀ b₀ k : ℕ} {p n : List Float} {a b : ℕ} → Going p₀ n₀ a₀ b₀ k p n a b → length p ≤ 5 → (d : ℕ) → d ≡ min (b - a) 6 → d ≡ 6 → true ≡ run 21 p₀ n₀ a₀ b₀
going_yes {k = k} {p} {n} {a} {b} h l d e g = ahead_yes k p n a b h.ps h.ns l (sym e ∙ g) ∙ h.same

-- ---- the comparison
ends_all : (p : List Float) → All (λ x. Ends (2 ^ 1074) (2 ^ 50) 22 (mag binary64 x)) p
unfolding pw
ends_all [] = tt
ends_all (x ∷ xs) = (record { q = mag binary64 x * 2 ^ 26; is = sym (mul_assoc (mag binary64 x) (2 ^ 26) (2 ^ 1074)) }, ends_all xs)

module _ (p n : List Float) (P : All (Size binary64) p) (N : All (Size binary64) n) (l : length p ≤ 5) (l' : length n ≤ 5) where
  run_law : (a b : ℕ) → run 21 (each_of rest_of p) (each_of rest_of n) a b ≡ nat_le (a * 2 ^ 1074 + sum_of (mag binary64) (each_of rest_of p)) (b * 2 ^ 1074 + sum_of (mag binary64) (each_of rest_of n))
  unfolding run
  run_law a b =
      run_is digit_of rest_of (mag binary64) (2 ^ 1074) (2 ^ 50) (lit< tt) (lit< tt) (Rest binary64) (λ x g. g.under) (λ x g. (cut_f64 x g.size).is) (λ x g. cut_rest x g.size) 21
      (each_of rest_of p) (each_of rest_of n) a b
      (rests_of p (each_of rest_of p) P refl) (rests_of n (each_of rest_of n) N refl)
      (le_trans (le_of_eq (each_length rest_of p)) l) (le_trans (le_of_eq (each_length rest_of n)) l')
      (all_end digit_of rest_of (mag binary64) (2 ^ 1074) (2 ^ 50) (Size binary64) (λ x g. (cut_f64 x g).is) 21 p P (ends_all p))
      (all_end digit_of rest_of (mag binary64) (2 ^ 1074) (2 ^ 50) (Size binary64) (λ x g. (cut_f64 x g).is) 21 n N (ends_all n))

  cut_sum : sum_of digit_of p * 2 ^ 1074 + sum_of (mag binary64) (each_of rest_of p) ≡ sum_of (mag binary64) p * 2 ^ 50
  cut_sum = sums_cut digit_of rest_of (mag binary64) (2 ^ 1074) (2 ^ 50) (Size binary64) (λ x g. (cut_f64 x g).is) p P

abbrev Bounds : ℕ → ℕ → Bool
Bounds P N = nat_le P (N + 2 ^ 1074 + 2 ^ 1034) && nat_le (N + 2 ^ 1074) (P + 2 ^ 1034)

near_run_lem : (p n : List Float) → All (Size binary64) p → All (Size binary64) n → length p ≤ 5 → length n ≤ 5 → near_run p n ≡ Bounds (sum_of (mag binary64) p) (sum_of (mag binary64) n)
unfolding near_run
near_run_lem p n P N l l' =
    let M = sum_of (mag binary64) in
    let a = sum_of digit_of p in
    let b = sum_of digit_of n in
    let e = cut_sum p n P N l l' in
    let g = cut_sum n p N P l' l in
    ap (λ (v : Bool). v && run 21 (each_of rest_of n) (each_of rest_of p) (b + 2 ^ 50) (a + 2 ^ 10)) (run_law p n P N l l' a (b + 2 ^ 50 + 2 ^ 10) ∙ upper (2 ^ 1074) (2 ^ 50) (2 ^ 1034) (2 ^ 10) (M p) (M n) a (M (each_of rest_of p)) b (M (each_of rest_of n)) (lit< tt) e g refl)
    ∙ ap (λ (v : Bool). nat_le (M p) (M n + 2 ^ 1074 + 2 ^ 1034) && v) (run_law n p N P l' l (b + 2 ^ 50) (a + 2 ^ 10) ∙ lower (2 ^ 1074) (2 ^ 50) (2 ^ 1034) (2 ^ 10) (M p) (M n) a (M (each_of rest_of p)) b (M (each_of rest_of n)) (lit< tt) e g refl)

-- ---- the definition
-- z is p - l
size_of : (z : ℤ) (p l t : ℕ) → Is z p l → nat_le (unsigned_abs z) t ≡ (nat_le p (l + t) && nat_le l (p + t))
size_of (pos n) p l t e = go (lt_or_le t n)
  where
    go : (t < n) ⊎ (n ≤ t) → nat_le n t ≡ (nat_le p (l + t) && nat_le l (p + t))
    go (inl h) = rw (lt-leb n t h, lt-leb p (l + t) (omega arith)) refl
    go (inr h) = rw (le-leb n t h, le-leb p (l + t) (omega arith), le-leb l (p + t) (omega arith)) refl
size_of (negsuc n) p l t e = go (lt_or_le t (suc n))
  where
    go : (t < suc n) ⊎ (suc n ≤ t) → nat_le (suc n) t ≡ (nat_le p (l + t) && nat_le l (p + t))
    go (inl h) = rw (lt-leb (suc n) t h, le-leb p (l + t) (omega arith), lt-leb l (p + t) (omega arith)) refl
    go (inr h) = rw (le-leb (suc n) t h, le-leb p (l + t) (omega arith), le-leb l (p + t) (omega arith)) refl

near_as : (f : Format) (cs : List Float) (u t : ℕ) → nat_le (unsigned_abs (sum_z (units f) cs -ℤ pos u)) t ≡ (nat_le (sum_of (plus f) cs) (sum_of (less f) cs + u + t) && nat_le (sum_of (less f) cs + u) (sum_of (plus f) cs + t))
near_as f cs u t =
    let z = sum_z (units f) cs in
    let i : Is (z -ℤ pos u) (sum_of (plus f) cs + 0) (sum_of (less f) cs + u) = is_add z (neg_ℤ (pos u)) (sum_of (plus f) cs) (sum_of (less f) cs) 0 u (is_sum f cs) (is_neg_lem (pos u) u 0 (sym (zero-add u))) in
    size_of (z -ℤ pos u) (sum_of (plus f) cs) (sum_of (less f) cs + u) t (subst (λ (v : ℕ). Is (z -ℤ pos u) v (sum_of (less f) cs + u)) (add-zero (sum_of (plus f) cs)) i)

pub near_law : (cs : List Float) → All Held cs → length cs ≤ 5 → near_run (each_of pos_of cs) (each_of neg_of cs) ≡ near_one cs
unfolding near_one
near_law cs H l =
    near_run_lem (each_of pos_of cs) (each_of neg_of cs) (pos_sizes cs H) (neg_sizes cs H) (le_trans (le_of_eq (each_length pos_of cs)) l) (le_trans (le_of_eq (each_length neg_of cs)) l)
    ∙ ap (λ (v : ℕ). Bounds v (sum_of (mag binary64) (each_of neg_of cs))) (pos_sum cs H)
    ∙ ap (λ (v : ℕ). Bounds (sum_of (plus binary64) cs) v) (neg_sum cs H)
    ∙ sym (near_as binary64 cs (2 ^ 1074) (2 ^ 1034))

-- ---- five numbers
pub five_of : (v : List Float) → length v ≡ 5 → v ≡ five (get_or v 0 nan) (get_or v 1 nan) (get_or v 2 nan) (get_or v 3 nan) (get_or v 4 nan)
five_of [] h = absurd (omega arith)
five_of (a ∷ []) h = absurd (omega arith)
five_of (a ∷ b ∷ []) h = absurd (omega arith)
five_of (a ∷ b ∷ c ∷ []) h = absurd (omega arith)
five_of (a ∷ b ∷ c ∷ d ∷ []) h = absurd (omega arith)
five_of (a ∷ b ∷ c ∷ d ∷ e ∷ []) h = refl
five_of (a ∷ b ∷ c ∷ d ∷ e ∷ f ∷ xs) h = absurd (omega arith)

-- the code's test of all, and what it tells
pub all_five : (a b c d e : Float) → ((((within a && within b) && within c) && within d) && within e) ≡ all_within (five a b c d e)
unfolding all_within
all_five a b c d e = go (within a) (within b) (within c) (within d) (within e)
  where
    go : (s t u v w : Bool) → ((((s && t) && u) && v) && w) ≡ (s && (t && (u && (v && (w && true)))))
    go true true true true true = refl
    go true true true true false = refl
    go true true true false w = refl
    go true true false v w = refl
    go true false u v w = refl
    go false t u v w = refl

pub all_held : (cs : List Float) → All (λ x. T (fits binary64 x)) cs → all_within cs ≡ true → All Held cs
unfolding all_within
all_held [] f e = tt
all_held (x ∷ xs) f e = let b = both (within x) (all_within xs) e in (record { fit = f.0; in_one = b.0 }, all_held xs f.1 b.1)

module _ (cs : List Float) {p n : List Float} (H : All Held cs) (e : p ≡ each_of pos_of cs) (g : n ≡ each_of neg_of cs) where
  pub both_sizes : All (Size binary64) p × All (Size binary64) n
  both_sizes = (subst (All (Size binary64)) (sym e) (pos_sizes cs H), subst (All (Size binary64)) (sym g) (neg_sizes cs H))

  pub near_by : (r : Bool) → length cs ≤ 5 → all_within cs ≡ true → r ≡ near_run p n → r ≡ (all_within cs && near_one cs)
  near_by r l t h = h ∙ rw (e, g, t) (near_law cs H l)
