-- Reading gives back what was written: a number, and a buffer's f64s; the bytes of a number one by one, and which
-- patterns are a NaN's. Assumes nothing.
use Rattle.std.specs.Prelude.{◌≡◌, refl, List, [], ◌∷◌, ◌++◌, not, T, take, drop, get_or, Float}
use Rattle.std.proofs.Common.{sym, ap, ◌∙◌, lt_of_lt_of_le, le_of_eq, pow-suc, div-lt_iff_lt-mul, not-suc-le-zero, mul-suc, mul-le-mul_left, add_assoc, arith, lt-ltb, le-ltb, lit≤, length-drop, drop-cons, take_all, drop_at}
use Prim.Native.Nat.{ℕ, zero, suc, ◌+◌, ◌*◌, ◌/◌, ◌%◌, ◌^◌, ◌≤◌, ◌<◌}
use Rattle.std.proofs.Math.ListN.{length}
use native.Mathlib.Numerals.{unary_clauses}
use Rattle.std.proofs.lemmas.List.{take-append-le, drop-append-le, drop-drop}
use Rattle.std.specs.Simd.{first_chunks}
use Rattle.std.specs.Float.{nan, Format, binary64}
use Rattle.std.specs.Float.Ieee.{of_bits, to_bits, fits, nan_bits, ones, hid, top}
use Rattle.std.specs.Float.Ieee.Bits.{of_bits-to_bits, to_bits-lt, nan_bits_is, nan_bits_above}
use Rattle.laws.specs.Cases.{either}
use Rattle.laws.specs.Numbers.{lt_or_le}
use Rattle.laws.specs.Tests.{fails, is_nan_lem}
use Rattle.laws.specs.Chunks.{chunks, length_chunks}
use Rattle.laws.specs.Filled.{tabulate, tabulate_below}
use Rattle.wire.specs.Bytes.{bytes_of, float_bytes, number_of, joined, joined_four, float_of, floats_in}
use Rattle.wire.specs.Laws.{length_bytes}

-- ---- a number
rejoined : (n : ℕ) → n % 256 + 256 * (n / 256) ≡ n
rejoined n = omega arith

less : (n p : ℕ) → n < p * 256 → n / 256 < p
less n p h = (div-lt_iff_lt-mul (lit≤ tt)).1 h

pub number_bytes : (w n : ℕ) → n < 256 ^ w → number_of (bytes_of w n) ≡ n
unfolding number_of bytes_of
number_bytes zero n h = go n h
  where
    go : (n : ℕ) → n < 1 → 0 ≡ n
    go n h = omega arith
number_bytes (suc w) n h = ap (λ (z : ℕ). n % 256 + 256 * z) (number_bytes w (n / 256) (less n (256 ^ w) (lt_of_lt_of_le h (le_of_eq (pow-suc 256 w))))) ∙ rejoined n

pub float_bytes_lem : (x : Float) → T (fits binary64 x) → float_of (float_bytes x) ≡ x
float_bytes_lem x t = ap (λ (z : ℕ). of_bits binary64 z) (number_bytes 8 (to_bits binary64 x) (lt_of_lt_of_le (to_bits-lt binary64 x t) (lit≤ tt))) ∙ of_bits-to_bits binary64 x t

-- ---- a buffer
module _ (w : ℕ) (g : ℕ → List ℕ) (width : (i : ℕ) → length (g i) ≡ w) where
  -- chunk i of n
  pub chunk_at : (n i : ℕ) → i < n → take w (drop (w * i) (chunks n g)) ≡ g i
  unfolding chunks
  chunk_at zero i h = absurd (not-suc-le-zero h)
  chunk_at (suc n) i h = either (lt_or_le i n) (λ l. before l (chunk_at n i l)) (λ l. here l)
    where
      len : length (chunks n g) ≡ w * n
      len = length_chunks w g width n

      before : i < n → take w (drop (w * i) (chunks n g)) ≡ g i → take w (drop (w * i) (chunks n g ++ g n)) ≡ g i
      before l e =
          let m : w * suc i ≤ w * n = mul-le-mul_left w l in
          let s : w * suc i ≡ w * i + w = mul-suc w i in
          ap (take w) (drop-append-le (w * i) (chunks n g) (g n) (omega (arith, len, m, s)))
          ∙ take-append-le w (drop (w * i) (chunks n g)) (g n) (omega (arith, len, m, s, length-drop (w * i) (chunks n g)))
          ∙ e

      here : n ≤ i → take w (drop (w * i) (chunks n g ++ g n)) ≡ g i
      here l =
          let e : i ≡ n = omega arith in
          ap (λ (j : ℕ). take w (drop (w * j) (chunks n g ++ g n))) e
          ∙ ap (take w) (drop_at (chunks n g) (g n) (w * n) len)
          ∙ take_all w (g n) (le_of_eq (width n))
          ∙ ap g (sym e)

-- what is read of n f64s that were written
pub floats_back : (n : ℕ) (t : ℕ → Float) → ((i : ℕ) → T (fits binary64 (t i))) → floats_in n (chunks n (λ i. float_bytes (t i))) ≡ tabulate n t
floats_back n t f =
    tabulate_below n (λ i. float_of (take 8 (drop (8 * i) (chunks n (λ i. float_bytes (t i)))))) t
    (λ i h. ap float_of (chunk_at 8 (λ i. float_bytes (t i)) (λ i. length_bytes 8 (to_bits binary64 (t i))) n i h) ∙ float_bytes_lem (t i) (f i))

-- the chunks that the library cuts a list into, w elements each: chunk i of k
pub chunk_in : (w k i : ℕ) (d none : List ℕ) → i < k → get_or (first_chunks w k d) i none ≡ take w (drop (w * i) d)
chunk_in w zero i d none h = absurd (not-suc-le-zero h)
chunk_in w (suc k) zero d none h = simp unary_clauses refl
chunk_in w (suc k) (suc i) d none h =
    chunk_in w k i (drop w d) none (omega arith) ∙ rw (drop-drop, mul-suc) (ap (λ (j : ℕ). take w (drop j d)) (omega arith))

-- ---- bytes one by one
next : (d : List ℕ) (at k n : ℕ) → at < length d → n ≡ suc at → number_of (take (suc k) (drop at d)) ≡ get_or d at 0 + 256 * number_of (take k (drop n d))
unfolding number_of
next d at k n h e = rw (drop-cons d at 0 h, e)

none : (d : List ℕ) → number_of (take 0 d) ≡ 0
unfolding number_of
none [] = refl
none (b ∷ d) = refl

-- four, and k more
module _ (d : List ℕ) (at : ℕ) where
  abbrev four_at : ℕ
  four_at = joined_four (get_or d at 0) (get_or d (at + 1) 0) (get_or d (at + 2) 0) (get_or d (at + 3) 0)

  four_more : (k : ℕ) → at + 4 ≤ length d → number_of (take (suc (suc (suc (suc k)))) (drop at d)) ≡ four_at + 4294967296 * number_of (take k (drop (at + 4) d))
  four_more k h =
      let e0 = next d at (suc (suc (suc k))) (at + 1) (omega arith) (omega arith) in
      let e1 = next d (at + 1) (suc (suc k)) (at + 2) (omega arith) (omega arith) in
      let e2 = next d (at + 2) (suc k) (at + 3) (omega arith) (omega arith) in
      let e3 = next d (at + 3) k (at + 4) (omega arith) (omega arith) in
      omega (arith, e0, e1, e2, e3)

  pub four : at + 4 ≤ length d → four_at ≡ number_of (take 4 (drop at d))
  four h = omega (arith, four_more 0 h, none (drop (at + 4) d))

pub eight : (d : List ℕ) (at : ℕ) → at + 8 ≤ length d → joined (get_or d at 0) (get_or d (at + 1) 0) (get_or d (at + 2) 0) (get_or d (at + 3) 0) (get_or d (at + 4) 0) (get_or d (at + 5) 0) (get_or d (at + 6) 0) (get_or d (at + 7) 0) ≡ number_of (take 8 (drop at d))
eight d at h = omega (arith, four_more d at 4 (omega arith), simp add_assoc at (four d (at + 4) (omega arith)))

-- ---- the test for a NaN's pattern, in any format
module _ (f : Format) (n : ℕ) where
  pub nan_above : ones f * hid f < n % top f → nan ≡ of_bits f n
  nan_above h = sym (is_nan_lem (of_bits f n) (sym (nan_bits_is f n) ∙ nan_bits_above f n ∙ lt-ltb _ _ h))

  pub not_nan : n % top f ≤ ones f * hid f → T (not (nan_bits f n))
  not_nan h = fails (nan_bits_above f n ∙ le-ltb _ _ h)
