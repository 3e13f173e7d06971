-- The sizes of a list's numbers above 0 and of those below it: their units are the list's; and when a number is within
-- 1. Assumes nothing.
use Rattle.std.specs.Prelude.{◌≡◌, ℕ, ◌+◌, ◌*◌, ◌^◌, ◌<◌, ◌≤◌, Bool, true, false, cond, not, ◌&&◌, ◌||◌, T, ◌⊎◌, List, [], ◌∷◌, pos, ◌==◌, nat_le, nat_lt, Float}
use Rattle.std.proofs.Math.Path.{refl, sym, ap}
use Rattle.std.proofs.Common.{◌∙◌, zero-le, le_of_eq, mul-le-mul_right, le_of_mul-le-mul_right, mul-lt-mul_of_pos_right, lt_of_mul-lt-mul_right, arith, inl, inr, pow_pos}
use Rattle.std.proofs.Math.Nat.{le_trans}
use borrow.Author.Tests.{ltb-true, ltb-false, le-leb, lt-leb, leb-true, lt-ltb, le-ltb, eq-eqb, ne_eqb}
use Rattle.std.specs.Float.{nan, inf, fin, Format}
use Rattle.std.specs.Float.Ieee.{binary64, low, up, down, lt, le, eq, neg, fits}
use Rattle.std.specs.Float.Ieee.Fits.{down_pos, neg-fits}
use Rattle.std.specs.Float.Ieee.Scale.{finite}
use Rattle.laws.specs.Compared.{lt_units}
use Rattle.laws.specs.Numbers.{lt_or_le}
use Rattle.laws.specs.SumError.{sum_of}
use Rattle.laws.specs.Tests.{both, holds}
use Rattle.laws.specs.Units.{mag, is_neg, part, plus, less, mag_cross, nought, nought_fits}
use Rattle.math_unity.specs.Cut.{Size}
use Rattle.math_unity.specs.Run.{All, each_of, all_keep, same_leb}
use Rattle.math_unity.specs.Unity.{within}
use Rattle.math_unity.specs.Digits.{pos_of, neg_of}

-- ---- one number
-- x is in one of the two parts only
clear_of : (s : Bool) (n : ℕ) → part (not s) n < part s n → s ≡ false
clear_of false n h = refl
clear_of true n h = absurd (omega arith)

set_of : (s : Bool) (n : ℕ) → part s n < part (not s) n → s ≡ true
set_of true n h = refl
set_of false n h = absurd (omega arith)

none_of : (s : Bool) (n : ℕ) → part s n ≤ part (not s) n → part s n ≡ 0
none_of false n h = omega arith
none_of true n h = refl

none_less : (s : Bool) (n : ℕ) → part (not s) n ≤ part s n → part (not s) n ≡ 0
none_less false n h = refl
none_less true n h = omega arith

zero_mag : mag binary64 nought ≡ 0
unfolding mag
zero_mag = refl

zero_size : Size binary64 nought
unfolding mag
zero_size = record { finite' = tt; fit = nought_fits binary64; clear = refl; most = zero-le }

-- y is a size of n units
record Part (y : Float) (n : ℕ) : Type 0 where
  pub size : Size binary64 y
  pub is : mag binary64 y ≡ n

neg_mag : (f : Format) (x : Float) → mag f (neg x) ≡ mag f x
unfolding mag neg
neg_mag f nan = refl
neg_mag f (inf s) = refl
neg_mag f (fin s m e) = refl

neg_sign : (x : Float) → T (finite x) → is_neg (neg x) ≡ not (is_neg x)
unfolding neg
neg_sign nan t = absurd t
neg_sign (inf s) t = absurd t
neg_sign (fin s m e) t = refl

neg_finite : (x : Float) → T (finite x) → T (finite (neg x))
unfolding neg
neg_finite nan t = t
neg_finite (inf s) t = t
neg_finite (fin s m e) t = tt

module _ (x : Float) (F : T (fits binary64 x)) (W : within x ≡ true) where
  fin_x : T (finite x)
  unfolding within
  fin_x = holds (both (finite x) (nat_le (mag binary64 x) (2 ^ 1074)) W).0

  most_x : mag binary64 x ≤ 2 ^ 1074
  unfolding within
  most_x = leb-true (mag binary64 x) (2 ^ 1074) (both (finite x) (nat_le (mag binary64 x) (2 ^ 1074)) W).1

  above_is : lt nought x ≡ nat_lt (less binary64 x) (plus binary64 x)
  above_is = lt_units binary64 nought x (nought_fits binary64) F tt fin_x ∙ rw zero_mag (tidy (less binary64 x) (plus binary64 x))
    where
      tidy : (a b : ℕ) → nat_lt (0 + a) (b + 0) ≡ nat_lt a b
      tidy a b = let p : 0 + a ≡ a = omega arith in let q : b + 0 ≡ b = omega arith in rw (p, q) refl

  below_is : lt x nought ≡ nat_lt (plus binary64 x) (less binary64 x)
  below_is = lt_units binary64 x nought F (nought_fits binary64) fin_x tt ∙ rw zero_mag (tidy (plus binary64 x) (less binary64 x))
    where
      tidy : (a b : ℕ) → nat_lt (a + 0) (0 + b) ≡ nat_lt a b
      tidy a b = let p : a + 0 ≡ a = omega arith in let q : 0 + b ≡ b = omega arith in rw (p, q) refl

  pos_part : Part (pos_of x) (plus binary64 x)
  unfolding pos_of
  pos_part = go (lt nought x) above_is
    where
      go : (b : Bool) → b ≡ nat_lt (less binary64 x) (plus binary64 x) → Part (cond b x nought) (plus binary64 x)
      go true e =
          let s = clear_of (is_neg x) (mag binary64 x) (ltb-true (less binary64 x) (plus binary64 x) (sym e)) in
          record { size = record { finite' = fin_x; fit = F; clear = s; most = most_x }; is = rw s refl }
      go false e = record { size = zero_size; is = zero_mag ∙ sym (none_of (is_neg x) (mag binary64 x) (ltb-false (less binary64 x) (plus binary64 x) (sym e))) }

  neg_part : Part (neg_of x) (less binary64 x)
  unfolding neg_of
  neg_part = go (lt x nought) below_is
    where
      go : (b : Bool) → b ≡ nat_lt (plus binary64 x) (less binary64 x) → Part (cond b (neg x) nought) (less binary64 x)
      go true e =
          let s = set_of (is_neg x) (mag binary64 x) (ltb-true (plus binary64 x) (less binary64 x) (sym e)) in
          record { size = record { finite' = neg_finite x fin_x; fit = neg-fits binary64 x F; clear = neg_sign x fin_x ∙ ap not s; most = le_trans (le_of_eq (neg_mag binary64 x)) most_x }; is = neg_mag binary64 x ∙ rw s refl }
      go false e = record { size = zero_size; is = zero_mag ∙ sym (none_less (is_neg x) (mag binary64 x) (ltb-false (plus binary64 x) (less binary64 x) (sym e))) }

-- ---- all of them
-- a number that fits and is within 1
pub record Held (x : Float) : Type 0 where
  pub fit : T (fits binary64 x)
  pub in_one : within x ≡ true

same_sum : (m h : Float → ℕ) (g : Float → Float) → ((x : Float) → Held x → m (g x) ≡ h x) → (cs : List Float) → All Held cs → sum_of m (each_of g cs) ≡ sum_of h cs
unfolding sum_of each_of
same_sum m h g e [] a = refl
same_sum m h g e (x ∷ xs) a = rw (e x a.0, same_sum m h g e xs a.1) refl

module _ (cs : List Float) (H : All Held cs) where
  pub pos_sizes : All (Size binary64) (each_of pos_of cs)
  pos_sizes = all_keep pos_of Held (Size binary64) (λ x h. (pos_part x h.fit h.in_one).size) cs H

  pub neg_sizes : All (Size binary64) (each_of neg_of cs)
  neg_sizes = all_keep neg_of Held (Size binary64) (λ x h. (neg_part x h.fit h.in_one).size) cs H

  pub pos_sum : sum_of (mag binary64) (each_of pos_of cs) ≡ sum_of (plus binary64) cs
  pos_sum = same_sum (mag binary64) (plus binary64) pos_of (λ x h. (pos_part x h.fit h.in_one).is) cs H

  pub neg_sum : sum_of (mag binary64) (each_of neg_of cs) ≡ sum_of (less binary64) cs
  neg_sum = same_sum (mag binary64) (less binary64) neg_of (λ x h. (neg_part x h.fit h.in_one).is) cs H

-- ---- the test of a size
at_most : (a b : ℕ) → (nat_lt a b || (a == b && true)) ≡ nat_le a b
at_most a b = go (lt_or_le a b) (lt_or_le b a)
  where
    go : (a < b) ⊎ (b ≤ a) → (b < a) ⊎ (a ≤ b) → (nat_lt a b || (a == b && true)) ≡ nat_le a b
    go (inl h) k = rw (lt-ltb a b h, le-leb a b (omega arith)) refl
    go (inr h) (inl k) = rw (le-ltb a b h, ne_eqb a b (λ e. omega arith), lt-leb a b k) refl
    go (inr h) (inr k) = rw (le-ltb a b h, eq-eqb a b (omega arith), le-leb a b k) refl

at_most' : (a b : ℕ) → (nat_lt a b || (b == a && true)) ≡ nat_le a b
at_most' a b = go (lt_or_le a b) (lt_or_le b a)
  where
    go : (a < b) ⊎ (b ≤ a) → (b < a) ⊎ (a ≤ b) → (nat_lt a b || (b == a && true)) ≡ nat_le a b
    go (inl h) k = rw (lt-ltb a b h, le-leb a b (omega arith)) refl
    go (inr h) (inl k) = rw (le-ltb a b h, ne_eqb b a (λ e. omega arith), lt-leb a b k) refl
    go (inr h) (inr k) = rw (le-ltb a b h, eq-eqb b a (omega arith), le-leb a b k) refl

-- a / d is w / u
same_size : (a d w u : ℕ) → 0 < d → 0 < u → w * d ≡ a * u → nat_le (a * 1) (1 * d) ≡ nat_le w u
same_size a d w u D U e = same_leb (a * 1) (1 * d) w u less' more'
  where
    less' : a * 1 ≤ 1 * d → w ≤ u
    less' h =
        let g : a ≤ d = omega arith in
        let x : a * u ≤ d * u = mul-le-mul_right u g in
        le_of_mul-le-mul_right {k = d} (omega arith) D

    more' : 1 * d < a * 1 → u < w
    more' h =
        let g : d < a = omega arith in
        let x : d * u < a * u = mul-lt-mul_of_pos_right g U in
        lt_of_mul-lt-mul_right d (omega arith)

all_true : (b v : Bool) (n : ℕ) → 0 < n → (b && (nat_lt 0 n || v)) ≡ b
all_true true v n h = rw (lt-ltb 0 n h) refl
all_true false v n h = refl

all_true' : (b v : Bool) (n : ℕ) → 0 < n → ((nat_lt 0 n || v) && b) ≡ b
all_true' b v n h = rw (lt-ltb 0 n h) refl

some : (a d : ℕ) → 0 < d → 0 < 1 * d + a * 1
some a d h = omega arith

some' : (a d : ℕ) → 0 < d → 0 < a * 1 + 1 * d
some' a d h = omega arith

within_as : (f : Format) (x : Float) → T (fits f x) → (le x (fin false 1 (pos 0)) && le (fin true 1 (pos 0)) x) ≡ (finite x && nat_le (mag f x) (2 ^ low f))
unfolding le lt eq
within_as f nan F = refl
within_as f (inf true) F = refl
within_as f (inf false) F = refl
within_as f (fin false m e) F =
    all_true (nat_lt (m * up e * 1) (1 * down e) || (m * up e * 1 == 1 * down e && true)) (1 * down e == m * up e * 1 && (false || 1 * down e == 0)) (1 * down e + m * up e * 1) (some (m * up e) (down e) (down_pos e))
    ∙ at_most (m * up e * 1) (1 * down e)
    ∙ same_size (m * up e) (down e) (mag f (fin false m e)) (2 ^ low f) (down_pos e) (pow_pos (low f)) (mag_cross f false m e F)
within_as f (fin true m e) F =
    all_true' (nat_lt (m * up e * 1) (1 * down e) || (1 * down e == m * up e * 1 && true)) (m * up e * 1 == 1 * down e && (false || m * up e * 1 == 0)) (m * up e * 1 + 1 * down e) (some' (m * up e) (down e) (down_pos e))
    ∙ at_most' (m * up e * 1) (1 * down e)
    ∙ same_size (m * up e) (down e) (mag f (fin true m e)) (2 ^ low f) (down_pos e) (pow_pos (low f)) (mag_cross f true m e F)

pub within_law : (x : Float) → T (fits binary64 x) → (le x (fin false 1 (pos 0)) && le (neg (fin false 1 (pos 0))) x) ≡ within x
unfolding within neg
within_law x F = within_as binary64 x F
