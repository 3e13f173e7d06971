-- A rounded whole number: its sign, its order against a small one, and its cast to 16 bits. Assumes nothing.
use Rattle.std.specs.Prelude.{◌≡◌, refl, Bool, ◌&&◌, ◌||◌, cond, T, leb, eqb, ℤ, pos, Float}
use Rattle.std.proofs.Common.{sym, ◌∙◌, subst, true≢false, lt_of_le_of_lt, le_trans, le_of_lt, le_of_eq, lt_irrefl, lt_of_lt_of_le, zero-lt-suc, zero-mul, mul-one, mul-pos, mul-le-mul_right, le_of_mul-le-mul_right, arith, leb-true, leb-false, eqb-true, eq-eqb, ne_eqb, lt-ltb, le→leb, lt→ltb, lit≤}
use Rattle.std.proofs.Math.Path.{ap}
use Rattle.std.proofs.Math.Bool.{true, false}
use Rattle.std.specs.Bool.{beq}
use Prim.Native.Nat.{ℕ, zero, suc, ◌+◌, ◌*◌, ◌^◌, ◌≤◌, ◌<◌}
use Rattle.std.proofs.lemmas.Bool.{eqb-false}
use Rattle.std.proofs.Math.Dec.{ltb}
use Rattle.std.specs.Float.{nan, inf, fin, Format}
use Rattle.std.specs.Float.Ieee.{binary64, prec, emax, low, up, down, odd, units, round, neg, le, eq, of_int, to_signed, in_signed, in_float}
use Rattle.std.specs.Float.Ieee.Bits.{is_true}
use Rattle.std.specs.Float.Ieee.Fits.{down_pos, round_is}
use Rattle.std.specs.Float.Ieee.Exact.{HasValue}
use Rattle.std.specs.Float.Ieee.Back.{round_whole, positive_back, negative_back}
use Rattle.std.specs.Float.Ieee.Order.{round_mono}
use Rattle.laws.specs.AtMost.{AtMost, of_le}
use Rattle.laws.specs.Tests.{holds, both}
use Rattle.laws.specs.Units.{nought}
use Rattle.laws.specs.WholeValues.{signed}
use Rattle.math_round.specs.FloorAs.{rounded}
use Rattle.math_round.specs.Laws.{neg_round}
use Rattle.fmt_q15.specs.Q15.{in16}

-- ---- the ends of 16 bits, 32767 and −32768, as the code tests them
abbrev pub most : Float
most = fin false 32767 (pos 0)

abbrev pub least : Float
least = fin true 1 (pos 15)

-- ---- what is rounded keeps its sign
module _ (P : Float → Type 0) (s : Bool) (large : P (inf s)) (size : (m : ℕ) (e : ℤ) → P (fin s m e)) where
  odd_signed : (d q k l : ℕ) → P (odd d s q k l)
  unfolding odd
  odd_signed d zero k l = size _ _
  odd_signed d (suc q) k l = size _ _

  units_signed : (f : Format) (q k : ℕ) → P (units f s q k)
  unfolding units
  units_signed f q k = go (ltb (q * 2 ^ k) (2 ^ (low f + suc (emax f))))
    where
      go : (b : Bool) → P (cond b (odd (suc (prec f)) s q k (low f)) (inf s))
      go true = odd_signed (suc (prec f)) q k (low f)
      go false = large

  pub by_sign : (f : Format) (a c : ℕ) → P (round f s a c)
  by_sign f a c = subst P (sym (round_is f s a c)) (units_signed f _ _)

pub some : (k d : ℕ) → 0 < k → 0 < d → k * d ≡ 0 → ⊥
some k d K D e = lt_irrefl 0 (subst (λ (z : ℕ). 0 < z) e (mul-pos K D))

-- so what is negative is never above what isn't
across : (a b : ℕ) → (ltb 0 (a + b) || (eqb a b && (false || eqb a 0))) ≡ true
across zero zero = refl
across zero (suc b) = rw (lt-ltb 0 (0 + suc b) (omega arith))
across (suc a) b = rw (lt-ltb 0 (suc a + b) (omega arith))

pub signs_order : (n k : ℕ) → le (rounded true n) (rounded false k) ≡ true
signs_order n k = by_sign (λ x. le x (rounded false k) ≡ true) true (by_sign (λ y. le (inf true) y ≡ true) false (unfold le in refl) (λ a b. unfold le in refl) binary64 k 1) at binary64 n 1
  where
    at : (m : ℕ) (e : ℤ) → le (fin true m e) (rounded false k) ≡ true
    at m e = by_sign (λ y. le (fin true m e) y ≡ true) false (unfold le in refl) (λ a b. unfold le in across (m * up e * down b) (a * up b * down e)) binary64 k 1

-- ---- a small k is reached where n reaches it: past 2 ^ 53 too, where n itself is rounded, since rounding keeps the
-- order
size_of : (x : Float) (k n d : ℕ) → 0 < d → HasValue x false k 1 → AtMost x n d → k * d ≤ n
size_of nan k n d D v h = absurd v
size_of (inf s) k n d D v h = absurd v
size_of (fin s m e) k n d D v h =
    let a : m * up e * 1 * d ≡ k * down e * d = ap (λ (z : ℕ). z * d) v.1 in
    le_of_mul-le-mul_right {k = down e} (omega arith) (down_pos e)

rising : (a b : ℕ) → a ≤ b → T (le (rounded false a) (rounded false b))
rising a b h = round_mono binary64 a 1 b 1 (zero-lt-suc 0) (zero-lt-suc 0) (mul-le-mul_right 1 h)

pub reaches : (k n : ℕ) → k ≤ 2 ^ 53 → le (rounded false k) (rounded false n) ≡ leb k n
reaches k n K = go (leb k n) refl
  where
    within : (b : Bool) → le (rounded false k) (rounded false n) ≡ b → n < k → b ≡ false
    within false h l = refl
    within true h l =
        let v = round_whole binary64 false k K in
        let w = round_whole binary64 false n (le_trans (le_of_lt l) K) in
        let a : k * 1 ≤ n = size_of (rounded false k) k n 1 (zero-lt-suc 0) v (of_le (rounded false k) (rounded false n) k 1 n 1 v w (holds h)) in
        absurd (lt_irrefl n (lt_of_lt_of_le l (le_trans (le_of_eq (sym (mul-one k))) a)))

    go : (b : Bool) → leb k n ≡ b → le (rounded false k) (rounded false n) ≡ b
    go true h = is_true (le (rounded false k) (rounded false n)) (rising k n (leb-true k n h))
    go false h = within (le (rounded false k) (rounded false n)) refl (leb-false k n h)

-- and it isn't passed where n doesn't pass it: what lies between two values has their order
no_infinity : (y : Float) (n : ℕ) → HasValue y false n 1 → T (le (inf false) y) → ⊥
unfolding le
no_infinity nan n v t = v
no_infinity (inf s) n v t = v
no_infinity (fin s m e) n v t = t

pub stays : (n k : ℕ) → k < 2 ^ 53 → le (rounded false n) (rounded false k) ≡ leb n k
stays n k K = go (leb n k) refl
  where
    low_value : HasValue (rounded false k) false k 1
    low_value = round_whole binary64 false k (le_of_lt K)

    high_value : HasValue (rounded false (suc k)) false (suc k) 1
    high_value = round_whole binary64 false (suc k) K

    squeezed : (z d : ℕ) → 0 < d → suc k * d ≤ z → z * 1 ≤ k * d → ⊥
    squeezed z d D a b = lt_irrefl k (le_of_mul-le-mul_right (le_trans a (le_trans (le_of_eq (sym (mul-one z))) b)) D)

    at : (m : ℕ) (e : ℤ) → T (le (rounded false (suc k)) (fin false m e)) → T (le (fin false m e) (rounded false k)) → ⊥
    at m e a b =
        squeezed (m * up e) (down e) (down_pos e)
        (size_of (rounded false (suc k)) (suc k) (m * up e) (down e) (down_pos e) high_value (of_le (rounded false (suc k)) (fin false m e) (suc k) 1 (m * up e) (down e) high_value (refl, refl) a))
        (of_le (fin false m e) (rounded false k) (m * up e) (down e) k 1 (refl, refl) low_value b)

    never : T (le (rounded false (suc k)) (rounded false n)) → T (le (rounded false n) (rounded false k)) → ⊥
    never = by_sign (λ x. T (le (rounded false (suc k)) x) → T (le x (rounded false k)) → ⊥) false (λ a b. no_infinity (rounded false k) k low_value b) at binary64 n 1

    past : (b : Bool) → le (rounded false n) (rounded false k) ≡ b → k < n → b ≡ false
    past false h l = refl
    past true h l = absurd (never (rising (suc k) n l) (holds h))

    go : (b : Bool) → leb n k ≡ b → le (rounded false n) (rounded false k) ≡ b
    go true h = is_true (le (rounded false n) (rounded false k)) (rising n k (leb-true n k h))
    go false h = past (le (rounded false n) (rounded false k)) refl (leb-false n k h)

eqb_sym : (a b : ℕ) → eqb a b ≡ eqb b a
eqb_sym a b = go (eqb b a) refl
  where
    go : (r : Bool) → eqb b a ≡ r → eqb a b ≡ r
    go true h = eq-eqb a b (sym (eqb-true b a h))
    go false h = ne_eqb a b (λ e. eqb-false b a h (sym e))

-- the order of two negations is the other way round
pub turned : (k n : ℕ) → le (rounded true n) (rounded true k) ≡ le (rounded false k) (rounded false n)
turned k n =
    ap (λ (x : Float). le x (rounded true k)) (sym (neg_round binary64 false n 1))
    ∙ ap (λ (y : Float). le (neg (rounded false n)) y) (sym (neg_round binary64 false k 1))
    ∙ by_sign (λ x. le (neg x) (neg (rounded false k)) ≡ le (rounded false k) x) false (by_sign (λ y. le (neg (inf false)) (neg y) ≡ le y (inf false)) false (unfold le neg in refl) (λ a b. unfold le neg in refl) binary64 k 1) at binary64 n 1
  where
    at : (m : ℕ) (e : ℤ) → le (neg (fin false m e)) (neg (rounded false k)) ≡ le (rounded false k) (fin false m e)
    at m e = by_sign (λ y. le (neg (fin false m e)) (neg y) ≡ le y (fin false m e)) false (unfold le neg in refl) (λ a b. unfold le neg in ap (λ (r : Bool). ltb (a * up b * down e) (m * up e * down b) || (r && true)) (eqb_sym (m * up e * down b) (a * up b * down e))) binary64 k 1

-- ---- its cast, where it has 16 bits
-- v may be cast to an i16, and that is z
abbrev pub Cut : Float → ℤ → Type 0
Cut v z = T (in_signed binary64 15 v) × (to_signed 15 v ≡ z)

-- a whole number that isn't 0, of either sign
rounded_cut : (s : Bool) (n : ℕ) → (n ≡ 0 → ⊥) → in16 (signed s n) ≡ true → Cut (rounded s n) (signed s n)
unfolding of_int in_float
rounded_cut false n some h = let l = leb-true n 32767 h in positive_back binary64 15 n (le→leb n (2 ^ 53) (le_trans l (lit≤ tt))) (lt_of_le_of_lt l (lit≤ tt))
rounded_cut true zero some h = absurd (some refl)
rounded_cut true (suc k) some h = let l = leb-true k 32767 h in negative_back binary64 15 k (lt→ltb k (2 ^ 53) (lt_of_le_of_lt l (lit≤ tt))) (lt_of_le_of_lt l (lit≤ tt))

zero_is : (s : Bool) → eq (rounded s 0) nought ≡ true
unfolding eq round
zero_is true = refl
zero_is false = refl

pub cut_some : (s : Bool) (n : ℕ) → in16 (signed s n) ≡ true → eq (rounded s n) nought ≡ false → Cut (rounded s n) (signed s n)
cut_some s n h c = rounded_cut s n (λ e. true≢false (sym (zero_is s) ∙ sym (ap (λ (k : ℕ). eq (rounded s k) nought) e) ∙ c)) h

-- one that equals 0
none : (n d : ℕ) → 0 < d → n * d ≡ 0 → n ≡ 0
none zero d D e = refl
none (suc n) d D e = absurd (some (suc n) d (zero-lt-suc n) D e)

no_size : (x : Float) (s : Bool) (n : ℕ) → HasValue x s n 1 → eq x nought ≡ true → n ≡ 0
unfolding eq
no_size nan s n v h = absurd v
no_size (inf t) s n v h = absurd v
no_size (fin t m e) s n v h =
    let a = eqb-true (m * up e * 1) (0 * down e) (both (eqb (m * up e * 1) (0 * down e)) (beq t false || eqb (m * up e * 1) 0) h).0 in
    none n (down e) (down_pos e) (sym v.1 ∙ a ∙ zero-mul (down e))

size16 : (s : Bool) (n : ℕ) → in16 (signed s n) ≡ true → n ≤ 32768
size16 false n h = le_trans (leb-true n 32767 h) (lit≤ tt)
size16 true zero h = lit≤ tt
size16 true (suc k) h = let l = leb-true k 32767 h in omega arith

pub cut_none : (s : Bool) (n : ℕ) → in16 (signed s n) ≡ true → eq (rounded s n) nought ≡ true → pos 0 ≡ signed s n
cut_none s n h c = sym (ap (λ (k : ℕ). signed s k) (no_size (rounded s n) s n (round_whole binary64 s n (le_trans (size16 s n h) (lit≤ tt))) c) ∙ nothing s)
  where
    nothing : (s : Bool) → signed s 0 ≡ pos 0
    nothing true = refl
    nothing false = refl
