-- A list that is filled from the front in chunks of w elements, one chunk a turn: after n turns it is `chunks n g ++
-- drop (w * n) d`.
-- Over any element type and any width: f64, f32 and Q15 elements in a byte buffer are w = 8, 4 and 2.
use Rattle.std.specs.Prelude.{◌≡◌}
use Rattle.std.proofs.Math.Path.{refl, sym, ap}
use Rattle.std.proofs.Common.{◌∙◌, mul-suc, add-one, arith, length-drop, drop_of_length-le, take_at}
use mathlib.Core.List.{List, [], ◌++◌, append-nil, append_assoc}
use Prim.Native.Nat.{ℕ, zero, suc, ◌+◌, ◌*◌, ◌<◌, ◌≤◌, zero-le}
use Rattle.std.proofs.Math.Nat.{mul-zero, mul-le-mul_left}
use Rattle.std.proofs.Math.ListN.{length, drop, length-append}
use Rattle.laws.specs.Cases.{either}
use Rattle.laws.specs.Numbers.{lt_or_le}
use Rattle.std.proofs.lemmas.List.Edits.{sets}
use Rattle.std.proofs.Math.Seq.{sets-eq, drop-drop, drop-append-add}
use Rattle.std.proofs.lemmas.List.{drop-append-le}

module _ {A : Type 0} where
  unfoldable pub chunks : ℕ → (ℕ → List A) → List A
  chunks zero g = []
  chunks (suc n) g = chunks n g ++ g n

  pub chunks_below : (n : ℕ) (f g : ℕ → List A) → ((i : ℕ) → i < n → f i ≡ g i) → chunks n f ≡ chunks n g
  unfolding chunks
  chunks_below zero f g e = refl
  chunks_below (suc n) f g e = ap (λ (l : List A). l ++ f n) (chunks_below n f g (λ i h. e i (omega arith))) ∙ ap (λ (l : List A). chunks n g ++ l) (e n (omega arith))

  -- the first n chunks by g, the rest as in d
  abbrev pub chunked : ℕ → ℕ → (ℕ → List A) → List A → List A
  chunked w n g d = chunks n g ++ drop (w * n) d

  module _ (w : ℕ) (g : ℕ → List A) (width : (i : ℕ) → length (g i) ≡ w) where
    pub length_chunks : (n : ℕ) → length (chunks n g) ≡ w * n
    unfolding chunks
    length_chunks zero = sym (mul-zero w)
    length_chunks (suc n) = length-append (chunks n g) (g n) ∙ rw (length_chunks n, width n, mul-suc) refl

    pub chunk_none : (d : List A) → d ≡ chunked w 0 g d
    unfolding chunks
    chunk_none d = rw mul-zero

    pub length_chunked : (n : ℕ) (d : List A) → w * n ≤ length d → length (chunked w n g d) ≡ length d
    length_chunked n d h = length-append (chunks n g) (drop (w * n) d) ∙ rw (length_chunks n, length-drop) (omega arith)

    next : (n : ℕ) → w * (n + 1) ≡ w * n + w
    next n = rw (add-one, mul-suc) refl

    pub chunk_more : (n : ℕ) (d : List A) → w * (n + 1) ≤ length d → sets (chunked w n g d) (w * n) (g n) ≡ chunked w (n + 1) g d
    unfolding chunks
    chunk_more n d h =
        let c = chunks n g in
        let r = drop (w * n) d in
        let l = length_chunks n in
        let k : w * n + length (g n) ≡ w * (n + 1) = omega (arith, next n, width n) in
        let m = length_chunked n d (omega (arith, next n)) in
        sets-eq (g n) (c ++ r) (w * n) (omega (arith, k, m))
        ∙ ap (λ (t : List A). t ++ g n ++ drop (w * n + length (g n)) (c ++ r)) (take_at c r (w * n) l)
        ∙ ap (λ (t : List A). c ++ g n ++ t)
        (ap (λ (j : ℕ). drop (j + length (g n)) (c ++ r)) (sym l)
        ∙ drop-append-add c r (length (g n)) ∙ drop-drop (length (g n)) (w * n) d ∙ ap (λ (j : ℕ). drop j d) k)
        ∙ ap (λ (j : ℕ). chunks j g ++ drop (w * (n + 1)) d) (sym (add-one n))

    -- all of them
    pub chunk_all : (n : ℕ) (d : List A) → length d ≤ w * n → chunked w n g d ≡ chunks n g
    chunk_all n d h = ap (λ (t : List A). chunks n g ++ t) (drop_of_length-le d h) ∙ append-nil (chunks n g)

    -- of n chunks the first k by f: all of them, and any number
    over_all : (f h : ℕ → List A) (k n : ℕ) → k ≤ n → n ≤ k → ((i : ℕ) → i < k → f i ≡ h i) → chunked w k f (chunks n g) ≡ chunks n h
    over_all f h k n l m new =
        let e : k ≡ n = omega arith in
        ap (λ (t : List A). chunks k f ++ t) (drop_of_length-le (chunks n g) {i = w * k} (omega (arith, length_chunks n, mul-le-mul_left w m)))
        ∙ append-nil (chunks k f) ∙ chunks_below k f h new ∙ ap (λ (j : ℕ). chunks j h) e

    pub chunk_over : (f h : ℕ → List A) (k n : ℕ) → k ≤ n → ((i : ℕ) → i < k → f i ≡ h i) → ((i : ℕ) → k ≤ i → g i ≡ h i) → chunked w k f (chunks n g) ≡ chunks n h
    unfolding chunks
    chunk_over f h k zero l new old = over_all f h k zero l zero-le new
    chunk_over f h k (suc n) l new old = either (lt_or_le k (suc n)) (λ m. more (omega arith) (chunk_over f h k n (omega arith) new old)) (λ m. over_all f h k (suc n) l m new)
      where
        more : k ≤ n → chunked w k f (chunks n g) ≡ chunks n h → chunked w k f (chunks n g ++ g n) ≡ chunks n h ++ h n
        more m e =
            ap (λ (t : List A). chunks k f ++ t) (drop-append-le (w * k) (chunks n g) (g n) (omega (arith, length_chunks n, mul-le-mul_left w m)))
            ∙ sym (append_assoc (chunks k f) (drop (w * k) (chunks n g)) (g n))
            ∙ ap (λ (t : List A). t ++ g n) e ∙ ap (λ (t : List A). chunks n h ++ t) (old n m)
