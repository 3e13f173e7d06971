-- What `q15_from_f64` rests on: each test of the floor tells whether it reaches that end of 16 bits, and between the
-- ends casting the floor to an i16 gives it back. So the number is the floor where nothing saturates. And what the
-- outcome of one tap tells. Assumes nothing.
use Rattle.std.specs.Prelude.{◌≡◌, Bool, ◌&&◌, ◌||◌, cond, ℕ, zero, suc, ◌*◌, ◌≤◌, ◌<◌, min, T, leb, eqb, ℤ, Float, Err, Ok}
use Rattle.std.proofs.Math.Path.{refl}
use Rattle.std.proofs.Common.{sym, ap, ◌∙◌, subst, true≢false, not-suc-le-zero, le_of_suc-le-suc, le_of_lt, arith, leb-true, leb-false, eqb-true, le-leb, lit≤}
use Rattle.std.proofs.Math.Bool.{true, false}
use Rattle.std.proofs.Math.IntN.{pos, negsuc}
use Rattle.std.specs.Float.{nan, inf, fin}
use Rattle.std.specs.Float.Ieee.{binary64, up, down, round, le, ne, eq}
use Rattle.std.specs.Float.Ieee.Compare.{nan_differs}
use Rattle.std.specs.Float.Ieee.Fits.{down_pos}
use Rattle.std.specs.Float.Ieee.Scale.{finite}
use Rattle.laws.specs.Floor.{floor_z}
use Rattle.laws.specs.Tests.{ne_self, is_nan_lem}
use Rattle.laws.specs.Units.{nought}
use Rattle.laws.specs.WholeValues.{signed}
use Rattle.math_round.specs.Whole.{floor_of}
use Rattle.verdict.specs.declared.Refusal.{Refusal}
use Rattle.fmt_q15.specs.Q15.{moved, saturated, in16, code_in, q15_of, takes, outside, q15_tap_of}
use Rattle.math_round.specs.FloorAs.{rounded, floor_as}
use Rattle.fmt_q15.specs.WholeFloats.{most, least, by_sign, some, reaches, turned, Cut, cut_some, cut_none}

-- ---- an end of 16 bits is never reached by what has the other sign
unlike_ends : (a b : ℕ) → (a ≡ b → a ≡ 0 → ⊥) → (eqb a b && (false || eqb a 0)) ≡ false
unlike_ends a b never = go (eqb a b) (eqb a 0) (eqb-true a b) (eqb-true a 0)
  where
    go : (p q : Bool) → (p ≡ true → a ≡ b) → (q ≡ true → a ≡ 0) → (p && (false || q)) ≡ false
    go true true h k = absurd (never (h refl) (k refl))
    go true false h k = refl
    go false q h k = refl

below_most : (n : ℕ) → le most (rounded true n) ≡ false
below_most n = by_sign (λ x. le most x ≡ false) true (unfold le in refl) at binary64 n 1
  where
    at : (m : ℕ) (e : ℤ) → le most (fin true m e) ≡ false
    at m e = unfold le in unlike_ends (32767 * down e) (m * up e * 1) (λ h k. some 32767 (down e) (lit≤ tt) (down_pos e) k)

above_least : (n : ℕ) → le (rounded false n) least ≡ false
above_least n = by_sign (λ x. le x least ≡ false) false (unfold le in refl) at binary64 n 1
  where
    at : (m : ℕ) (e : ℤ) → le (fin false m e) least ≡ false
    at m e = unfold le in unlike_ends (m * up e * 1) (32768 * down e) (λ h k. some 32768 (down e) (lit≤ tt) (down_pos e) (sym h ∙ k))

-- one of its own sign is reached where n reaches it
reaches_most : (n : ℕ) → le most (rounded false n) ≡ leb 32767 n
reaches_most n = unfold round in reaches 32767 n (lit≤ tt)

reaches_least : (n : ℕ) → le (rounded true n) least ≡ leb 32768 n
reaches_least n = unfold round in turned 32768 n ∙ reaches 32768 n (lit≤ tt)

-- ---- where nothing saturates, the number is the floor
under_cap : (n : ℕ) → n ≤ 32767 → min n 32767 ≡ n
under_cap n h = omega arith

over_cap : (n : ℕ) → 32767 ≤ n → 32767 ≡ min n 32767
over_cap n h = omega arith

kept : (z : ℤ) → in16 z ≡ true → saturated z ≡ z
kept (pos n) h = ap pos (under_cap n (leb-true n 32767 h))
kept (negsuc n) h = ap negsuc (under_cap n (leb-true n 32767 h))

pub code_is : (t : Float) → T (finite (moved t)) → in16 (floor_z (moved t)) ≡ true → q15_of t ≡ floor_z (moved t)
unfolding q15_of
code_is t u h = go (moved t) u h
  where
    go : (w : Float) → T (finite w) → in16 (floor_z w) ≡ true → code_in w ≡ floor_z w
    go nan u h = absurd u
    go (inf s) u h = absurd u
    go (fin s m e) u h = kept (floor_z (fin s m e)) h

-- ---- the three ways of a floor: at the upper end, at the lower end, and between
at_most : (s : Bool) (n : ℕ) → le most (rounded s n) ≡ true → pos 32767 ≡ saturated (signed s n)
at_most true n h = absurd (true≢false (sym h ∙ below_most n))
at_most false n h = ap pos (over_cap n (leb-true 32767 n (sym (reaches_most n) ∙ h)))

at_least : (s : Bool) (n : ℕ) → le (rounded s n) least ≡ true → negsuc 32767 ≡ saturated (signed s n)
at_least false n h = absurd (true≢false (sym h ∙ above_least n))
at_least true n h = go n (leb-true 32768 n (sym (reaches_least n) ∙ h))
  where
    go : (n : ℕ) → 32768 ≤ n → negsuc 32767 ≡ saturated (signed true n)
    go zero h = absurd (not-suc-le-zero h)
    go (suc k) h = ap negsuc (over_cap k (le_of_suc-le-suc h))

inside : (s : Bool) (n : ℕ) → le most (rounded s n) ≡ false → le (rounded s n) least ≡ false → in16 (signed s n) ≡ true
inside false n a b = le-leb n 32767 (le_of_lt (leb-false 32767 n (sym (reaches_most n) ∙ a)))
inside true n a b = go n (leb-false 32768 n (sym (reaches_least n) ∙ b))
  where
    go : (n : ℕ) → n < 32768 → in16 (signed true n) ≡ true
    go zero h = refl
    go (suc k) h = le-leb k 32767 (omega arith)

between : (s : Bool) (n : ℕ) → le most (rounded s n) ≡ false → le (rounded s n) least ≡ false → eq (rounded s n) nought ≡ false → Cut (rounded s n) (saturated (signed s n))
between s n a b c = let h = inside s n a b in subst (Cut (rounded s n)) (sym (kept (signed s n) h)) (cut_some s n h c)

at_nought : (s : Bool) (n : ℕ) → le most (rounded s n) ≡ false → le (rounded s n) least ≡ false → eq (rounded s n) nought ≡ true → pos 0 ≡ saturated (signed s n)
at_nought s n a b c = let h = inside s n a b in cut_none s n h c ∙ sym (kept (signed s n) h)

-- ---- the same of a value's floor, as the code's paths ask it
pub code_nan : (w : Float) → ne w w ≡ true → pos 0 ≡ code_in w
code_nan w h = sym (ap code_in (is_nan_lem w (sym (ne_self w) ∙ h)))

pub code_most : (w v : Float) → v ≡ floor_of w → le most v ≡ true → pos 32767 ≡ code_in w
code_most w v e h = go w (sym (ap (λ (v : Float). le most v) e) ∙ h)
  where
    go : (w : Float) → le most (floor_of w) ≡ true → pos 32767 ≡ code_in w
    go nan h = absurd (true≢false (sym h ∙ unfold le floor_of in refl))
    go (inf true) h = absurd (true≢false (sym h ∙ unfold le floor_of in refl))
    go (inf false) h = refl
    go (fin s m e) h = floor_as (λ v z. le most v ≡ true → pos 32767 ≡ saturated z) at_most s m e h

pub code_least : (w v : Float) → v ≡ floor_of w → le v least ≡ true → negsuc 32767 ≡ code_in w
code_least w v e h = go w (sym (ap (λ (v : Float). le v least) e) ∙ h)
  where
    go : (w : Float) → le (floor_of w) least ≡ true → negsuc 32767 ≡ code_in w
    go nan h = absurd (true≢false (sym h ∙ unfold le floor_of in refl))
    go (inf false) h = absurd (true≢false (sym h ∙ unfold le floor_of in refl))
    go (inf true) h = refl
    go (fin s m e) h = floor_as (λ v z. le v least ≡ true → negsuc 32767 ≡ saturated z) at_least s m e h

-- neither end is reached
module _ (w v : Float) (e : v ≡ floor_of w) (u : ne w w ≡ false) (a : le most v ≡ false) (b : le v least ≡ false) where
  -- what holds of every whole number between the ends holds of the floor
  inner : (P : Float → ℤ → Type 0) → ((s : Bool) (n : ℕ) → le most (rounded s n) ≡ false → le (rounded s n) least ≡ false → P (rounded s n) (saturated (signed s n))) → P v (code_in w)
  inner P p = subst (λ (v : Float). le most v ≡ false → le v least ≡ false → P v (code_in w)) (sym e) (go w u) a b
    where
      go : (w : Float) → ne w w ≡ false → le most (floor_of w) ≡ false → le (floor_of w) least ≡ false → P (floor_of w) (code_in w)
      go nan u a b = absurd (true≢false (sym nan_differs ∙ u))
      go (inf false) u a b = absurd (true≢false (unfold le floor_of in a))
      go (inf true) u a b = absurd (true≢false (unfold le floor_of in b))
      go (fin s m e) u a b = floor_as (λ v z. le most v ≡ false → le v least ≡ false → P v (saturated z)) p s m e a b

  pub code_nought : eq v nought ≡ true → pos 0 ≡ code_in w
  code_nought c = inner (λ v z. eq v nought ≡ true → pos 0 ≡ z) at_nought c

  pub code_between : eq v nought ≡ false → Cut v (code_in w)
  code_between c = inner (λ v z. eq v nought ≡ false → Cut v z) between c

-- ---- what the outcome of one tap tells
pub number_tells : (b : Bool) (z q : ℤ) (why : Refusal) → cond b (Ok z) (Err why) ≡ Ok q → (b ≡ true) × (z ≡ q)
number_tells true z q why e = (refl, cc)
number_tells false z q why e = (cc, cc)

pub refusal_tells : (b : Bool) (z : ℤ) (other why : Refusal) → cond b (Ok z) (Err other) ≡ Err why → (b ≡ false) × (other ≡ why)
refusal_tells true z other why e = (cc, cc)
refusal_tells false z other why e = (refl, cc)

pub tap_number : (i : ℕ) (t : Float) (q : ℤ) → q15_tap_of i t ≡ Ok q → (takes t ≡ true) × (q15_of t ≡ q)
unfolding q15_tap_of
tap_number i t q e = number_tells (takes t) (q15_of t) q (outside i t) e

pub tap_refused : (i : ℕ) (t : Float) (why : Refusal) → q15_tap_of i t ≡ Err why → (takes t ≡ false) × (outside i t ≡ why)
unfolding q15_tap_of
tap_refused i t why e = refusal_tells (takes t) (q15_of t) (outside i t) why e
