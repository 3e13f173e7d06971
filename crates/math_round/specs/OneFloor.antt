-- What shows that a whole number is the floor of x: it is not above x, x is less than 1 above it, and as a zero it has
-- the sign of x. Assumes nothing.
use Rattle.std.specs.Prelude.{◌≡◌, ℕ, zero, suc, ◌+◌, ◌*◌, ◌^◌, ◌<◌, ◌≤◌, Bool, true, false, not, T, ℤ, pos, negsuc, unsigned_abs, refl, Float}
use Rattle.std.proofs.Common.{sym, subst, le_trans, le_of_eq, lt_of_mul-lt-mul_right, arith, pow_pos}
use Rattle.std.specs.Float.{binary64}
use Rattle.std.specs.Float.Ieee.{low, fits}
use Rattle.std.specs.Float.Ieee.Back.{whole_unique}
use Rattle.std.specs.Float.Ieee.Exact.{HasValue}
use Rattle.std.specs.Float.Ieee.Scale.{finite}
use Rattle.laws.specs.Floor.{pos_part, neg_part, floor_z, floor_units}
use Rattle.laws.specs.Units.{is_neg, mag, part, plus, less}
use Rattle.laws.specs.WholeUnits.{parts_of_whole, whole_of_units}
use Rattle.math_round.specs.Whole.{floor_of}
use Rattle.math_round.specs.Laws.{floor_fits, floor_value}

-- a - b is not above p - q, which is less than l above it
abbrev pub Next : ℕ → ℕ → ℕ → ℕ → ℕ → Type 0
Next a b p q l = (a + q ≤ b + p) × (b + p < a + q + l)

-- only one multiple of l is next to p - q
one_next : (a b c d v w p q l : ℕ) → v ≡ c * l → w ≡ d * l → Next (a * l) (b * l) p q l → Next v w p q l → a + d ≡ b + c
one_next a b c d v w p q l e g h k =
    let x : (a + d) * l < suc (b + c) * l = omega arith in
    let y : (b + c) * l < suc (a + d) * l = omega arith in
    let x' : a + d < suc (b + c) = lt_of_mul-lt-mul_right l x in
    let y' : b + c < suc (a + d) = lt_of_mul-lt-mul_right l y in
    omega arith

same_size : (q : ℤ) (s : Bool) (n : ℕ) → pos_part q + part (not s) n ≡ neg_part q + part s n → n ≡ unsigned_abs q
same_size (pos k) false n e = omega arith
same_size (pos k) true n e = omega arith
same_size (negsuc k) false n e = omega arith
same_size (negsuc k) true n e = omega arith

-- a number other than 0 has the sign of what it is next to
same_sign : (s r : Bool) (n v w l : ℕ) → 0 < l → v ≡ n * l → Next (part s v) (part (not s) v) (part r w) (part (not r) w) l → (n ≡ 0 → s ≡ r) → s ≡ r
same_sign s r zero v w l L e h z = z refl
same_sign false false (suc n) v w l L e h z = refl
same_sign true true (suc n) v w l L e h z = refl
same_sign false true (suc n) v w l L e h z = absurd (omega arith)
same_sign true false (suc n) v w l L e h z = absurd (omega arith)

pub floor_is : (x y : Float) (n : ℕ) → T (fits binary64 x) → T (finite x) → T (fits binary64 y) → T (finite y) → mag binary64 y ≡ n * 2 ^ low binary64 → n ≤ 2 ^ 53
    → Next (plus binary64 y) (less binary64 y) (plus binary64 x) (less binary64 x) (2 ^ low binary64)
    → (n ≡ 0 → is_neg y ≡ is_neg x)
    → y ≡ floor_of x
floor_is x y n F u G v e h k z =
    let q = floor_z x in
    let l = 2 ^ low binary64 in
    let a : HasValue y (is_neg y) n 1 = whole_of_units binary64 y n G v e in
    let i = parts_of_whole binary64 y (is_neg y) n a in
    let b : pos_part q + part (not (is_neg y)) n ≡ neg_part q + part (is_neg y) n =
    one_next (pos_part q) (neg_part q) (part (is_neg y) n) (part (not (is_neg y)) n) (plus binary64 y) (less binary64 y) (plus binary64 x) (less binary64 x) l i.0 i.1 (floor_units binary64 x F u) k in
    let c : n ≡ unsigned_abs q = same_size q (is_neg y) n b in
    let g : is_neg y ≡ is_neg x = same_sign (is_neg y) (is_neg x) n (mag binary64 y) (mag binary64 x) l (pow_pos (low binary64)) e k z in
    whole_unique binary64 y (floor_of x) (is_neg x) (unsigned_abs q) G (floor_fits x F)
    (subst (λ (r : Bool). HasValue y r (unsigned_abs q) 1) g (subst (λ (j : ℕ). HasValue y (is_neg y) j 1) c a))
    (floor_value x u (le_trans (le_of_eq (sym c)) h))
