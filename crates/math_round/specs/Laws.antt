-- What callers may know of floor, ceiling and absolute value without looking into them: they fit an f64, the floor's
-- value, the ceiling as a floor, and that a whole number is its own floor. Assumes nothing.
use Rattle.std.specs.Prelude.{◌≡◌, ℕ, zero, suc, ◌+◌, ◌-◌, ◌*◌, ◌/◌, ◌%◌, ◌^◌, ◌<◌, ◌≤◌, Bool, true, false, cond, not, ◌&&◌, T, ltb, ℤ, pos, neg_ℤ, ◌==◌, nat_le, nat_lt, unsigned_abs, refl, Float}
use Rattle.std.proofs.Common.{sym, ap, ◌∙◌, subst, le_of_eq, lt_irrefl, lt_of_le_of_lt, lt_of_mul-lt-mul_right, zero-lt-suc, mul-one, mul_comm, zero-mul, mul_right_comm, mul-lt-mul_of_pos_right, mul-pos, mul-div_cancel, arith, ltb→lt, pow-add, pow_pos}
use Rattle.std.proofs.Math.Nat.{eq_of_mul-eq-mul_right}
use Rattle.std.proofs.Math.Arith.{digits_div}
use Rattle.std.specs.Float.{nan, inf, fin, Format, binary64}
use Rattle.std.specs.Float.Ieee.{prec, emax, low, up, down, odd, units, round, neg, fits}
use Rattle.std.specs.Float.Ieee.Fits.{down_pos, and_r, round-fits, round_is}
use Rattle.std.specs.Float.Ieee.Exact.{HasValue, round_exact}
use Rattle.std.specs.Float.Ieee.Back.{round_whole, whole_unique}
use Rattle.std.specs.Float.Ieee.Scale.{finite}
use Rattle.laws.specs.Units.{is_neg, mag, mag_cross, digits}
use Rattle.laws.specs.Floor.{upward, floor_z, ceil_z}
use Rattle.math_round.specs.Whole.{as_float, floor_of, ceil_of, abs_of}

-- ---- they fit an f64
pub floor_fits : (x : Float) → T (fits binary64 x) → T (fits binary64 (floor_of x))
unfolding floor_of as_float
floor_fits nan t = t
floor_fits (inf s) t = t
floor_fits (fin s m e) t = round-fits binary64 s (unsigned_abs (floor_z (fin s m e))) 1

pub ceil_fits : (x : Float) → T (fits binary64 x) → T (fits binary64 (ceil_of x))
unfolding ceil_of as_float
ceil_fits nan t = t
ceil_fits (inf s) t = t
ceil_fits (fin s m e) t = round-fits binary64 s (unsigned_abs (ceil_z (fin s m e))) 1

pub abs_fits : (x : Float) → T (fits binary64 x) → T (fits binary64 (abs_of x))
unfolding abs_of fits
abs_fits nan t = t
abs_fits (inf s) t = t
abs_fits (fin s zero e) t = t
abs_fits (fin s (suc m) e) t = t

-- ---- up to 2 ^ 53 an f64 holds each whole number
pub floor_value : (x : Float) → T (finite x) → unsigned_abs (floor_z x) ≤ 2 ^ 53 → HasValue (floor_of x) (is_neg x) (unsigned_abs (floor_z x)) 1
unfolding floor_of as_float
floor_value nan t h = absurd t
floor_value (inf s) t h = absurd t
floor_value (fin s m e) t h = round_whole binary64 s (unsigned_abs (floor_z (fin s m e))) h

-- ---- the negation of what is rounded
neg_cond : (b : Bool) (x y : Float) → neg (cond b x y) ≡ cond b (neg x) (neg y)
neg_cond true x y = refl
neg_cond false x y = refl

neg_odd : (d : ℕ) (s : Bool) (q k l : ℕ) → neg (odd d s q k l) ≡ odd d (not s) q k l
unfolding neg odd
neg_odd d s zero k l = refl
neg_odd d s (suc q) k l = refl

neg_units : (f : Format) (s : Bool) (q k : ℕ) → neg (units f s q k) ≡ units f (not s) q k
unfolding units
neg_units f s q k =
    let b = ltb (q * 2 ^ k) (2 ^ (low f + suc (emax f))) in
    neg_cond b (odd (suc (prec f)) s q k (low f)) (inf s)
    ∙ ap (λ (z : Float). cond b z (neg (inf s))) (neg_odd (suc (prec f)) s q k (low f))
    ∙ ap (λ (z : Float). cond b (odd (suc (prec f)) (not s) q k (low f)) z) (unfold neg in refl)

pub neg_round : (f : Format) (s : Bool) (a c : ℕ) → neg (round f s a c) ≡ round f (not s) a c
neg_round f s a c = ap neg (round_is f s a c) ∙ neg_units f s _ _ ∙ sym (round_is f (not s) a c)

-- ---- the ceiling is the floor from the other side of zero
pub abs_neg : (n : ℕ) → unsigned_abs (neg_ℤ (pos n)) ≡ n
abs_neg zero = refl
abs_neg (suc n) = refl

pub ceil_is : (x : Float) → ceil_of x ≡ neg (floor_of (neg x))
unfolding ceil_of floor_of as_float neg floor_z ceil_z
ceil_is nan = refl
ceil_is (inf true) = refl
ceil_is (inf false) = refl
ceil_is (fin false m e) =
    let n = upward (m * up e) (down e) in
    sym (neg_round binary64 true (unsigned_abs (neg_ℤ (pos n))) 1 ∙ ap (λ (z : ℕ). round binary64 false z 1) (abs_neg n))
ceil_is (fin true m e) =
    let n = m * up e / down e in
    ap (λ (z : ℕ). round binary64 true z 1) (abs_neg n) ∙ sym (neg_round binary64 false n 1)

-- ---- a whole number is its own floor
-- a whole number that the format holds does not overflow it
in_range : (f : Format) (s : Bool) (m : ℕ) (e : ℤ) (n : ℕ) → T (fits f (fin s m e)) → m * up e ≡ n * down e → n < 2 ^ suc (emax f)
unfolding fits
in_range f s zero e n t h = none n (down e) (down_pos e) (sym h ∙ zero-mul (up e)) (pow_pos (suc (emax f)))
  where
    none : (n d : ℕ) → 0 < d → n * d ≡ 0 → {p : ℕ} → 0 < p → n < p
    none zero d D h P = P
    none (suc n) d D h P = absurd (lt_irrefl 0 (subst (λ (z : ℕ). 0 < z) h (mul-pos (zero-lt-suc n) D)))
in_range f s (suc m) e n t h =
    let a : Bool = suc m % 2 == 1 && nat_lt (suc m) (2 ^ prec f) && nat_le (down e) (2 ^ low f) in
    let c : Bool = ltb (suc m * up e) (2 ^ suc (emax f) * down e) in
    lt_of_mul-lt-mul_right (down e) (lt_of_le_of_lt (le_of_eq (sym h)) (ltb→lt (suc m * up e) (2 ^ suc (emax f) * down e) (and_r a c t)))

-- rounding leaves it: it has no more digits than the format keeps
stays : (f : Format) (s : Bool) (m : ℕ) (e : ℤ) (n : ℕ) → T (fits f (fin s m e)) → m * up e ≡ n * down e → fin s m e ≡ round f s n 1
stays f s m e n t h =
    let d = digits f (fin s m e) t in
    let w : mag f (fin s m e) ≡ n * 2 ^ low f = eq_of_mul-eq-mul_right (down e) (down_pos e) (mag f (fin s m e)) (n * 2 ^ low f) (mag_cross f s m e t ∙ ap (λ (z : ℕ). z * 2 ^ low f) h ∙ mul_right_comm n (down e) (2 ^ low f)) in
    let q : n * 2 ^ low f ≡ d.0 * 2 ^ d.1 = sym w ∙ d.3 in
    let top : n * 2 ^ low f < 2 ^ (low f + suc (emax f)) = subst (λ (z : ℕ). n * 2 ^ low f < z) (mul_comm (2 ^ suc (emax f)) (2 ^ low f) ∙ sym (pow-add 2 (low f) (suc (emax f)))) (mul-lt-mul_of_pos_right (in_range f s m e n t h) (pow_pos (low f))) in
    whole_unique f (fin s m e) (round f s n 1) s n t (round-fits f s n 1) (refl, mul-one (m * up e) ∙ h)
    (round_exact f s n 1 d.0 d.1 (zero-lt-suc 0) d.2 (subst (λ (z : ℕ). z < 2 ^ (low f + suc (emax f))) q top) (q ∙ sym (mul-one (d.0 * 2 ^ d.1))))

-- the division leaves nothing, so both ways of rounding it agree
floor_z_whole : (s : Bool) (m : ℕ) (e : ℤ) (n : ℕ) → m * up e ≡ n * down e → unsigned_abs (floor_z (fin s m e)) ≡ n
unfolding floor_z
floor_z_whole false m e n h = ap (λ (z : ℕ). z / down e) h ∙ mul-div_cancel n (down_pos e)
floor_z_whole true m e n h = abs_neg (upward (m * up e) (down e)) ∙ ap (λ (z : ℕ). upward z (down e)) h ∙ digits_div n (less (down e) (down_pos e))
  where
    less : (d : ℕ) → 0 < d → d - 1 < d
    less d h = omega arith

pub floor_whole : (s : Bool) (m : ℕ) (e : ℤ) (n : ℕ) → T (fits binary64 (fin s m e)) → m * up e ≡ n * down e → fin s m e ≡ floor_of (fin s m e)
unfolding floor_of as_float
floor_whole s m e n t h = stays binary64 s m e n t h ∙ ap (λ (z : ℕ). round binary64 s z 1) (sym (floor_z_whole s m e n h))
