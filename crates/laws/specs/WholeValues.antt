-- Values that are whole numbers: `HasValue x s n 1` says that x is n, negative where s is true. What their floor, their
-- negation and their integer are. Assumes nothing.
use Rattle.std.specs.Prelude.{◌≡◌, refl, ℕ, zero, suc, ◌+◌, ◌-◌, ◌*◌, ◌/◌, ◌^◌, ◌≤◌, ◌<◌, min, Bool, true, false, not, T, ℤ, pos, neg_ℤ, Float}
use Rattle.std.proofs.Common.{sym, ap, ◌∙◌, subst, zero-lt-suc, mul-one, mul-pos, mul-div_cancel, mul-lt-mul_of_pos_right, arith, true≢false, lt→ltb, nltb→le}
use Rattle.std.proofs.Math.Arith.{digits_div}
use Rattle.std.specs.Float.{nan, inf, fin}
use Rattle.std.specs.Float.Ieee.{up, down, neg, lt, to_unsigned}
use Rattle.std.specs.Float.Ieee.Exact.{HasValue}
use Rattle.std.specs.Float.Ieee.Fits.{down_pos}
use Rattle.laws.specs.Floor.{floor_z, upward}
use Rattle.laws.specs.Units.{nought}

pub neg_value : (x : Float) (s : Bool) (n c : ℕ) → HasValue x s n c → HasValue (neg x) (not s) n c
unfolding neg
neg_value nan s n c v = v
neg_value (inf t) s n c v = v
neg_value (fin t m e) s n c v = (ap not v.0, v.1)

-- ---- the floor
quotient : (a n d : ℕ) → 0 < d → a * 1 ≡ n * d → a / d ≡ n
quotient a n d D e = ap (λ (z : ℕ). z / d) (sym (mul-one a) ∙ e) ∙ mul-div_cancel n D

quotient_up : (a n d : ℕ) → 0 < d → a * 1 ≡ n * d → upward a d ≡ n
quotient_up a n d D e = ap (λ (z : ℕ). (z + (d - 1)) / d) (sym (mul-one a) ∙ e) ∙ digits_div n (less d D)
  where
    less : (d : ℕ) → 0 < d → d - 1 < d
    less d h = omega arith

-- s and n as a whole number
abbrev pub signed : Bool → ℕ → ℤ
signed false n = pos n
signed true n = neg_ℤ (pos n)

pub floor_of_whole : (x : Float) (s : Bool) (n : ℕ) → HasValue x s n 1 → floor_z x ≡ signed s n
unfolding floor_z
floor_of_whole nan s n v = absurd v
floor_of_whole (inf t) s n v = absurd v
floor_of_whole (fin false m e) false n v = ap pos (quotient (m * up e) n (down e) (down_pos e) v.1)
floor_of_whole (fin false m e) true n v = absurd (true≢false (sym v.0))
floor_of_whole (fin true m e) false n v = absurd (true≢false v.0)
floor_of_whole (fin true m e) true n v = ap (λ (k : ℕ). neg_ℤ (pos k)) (quotient_up (m * up e) n (down e) (down_pos e) v.1)

-- ---- the integer, of what is not below 0
-- x is not below 0: it is not negative, or it is -0
abbrev pub Unsigned : Float → ℕ → Type 0
Unsigned nan n = ⊥
Unsigned (inf t) n = ⊥
Unsigned (fin false m e) n = m * up e * 1 ≡ n * down e
Unsigned (fin true m e) n = (m * up e ≡ 0) × (n ≡ 0)

pub unsigned_of : (x : Float) (n : ℕ) → HasValue x false n 1 → Unsigned x n
unsigned_of nan n v = v
unsigned_of (inf t) n v = v
unsigned_of (fin false m e) n v = v.1
unsigned_of (fin true m e) n v = absurd (true≢false v.0)

none : (a d : ℕ) → a * 1 ≡ 0 * d → a ≡ 0
none a d h = omega arith

pub unsigned_zero : (x : Float) (s : Bool) → HasValue x s 0 1 → Unsigned x 0
unsigned_zero nan s v = v
unsigned_zero (inf t) s v = v
unsigned_zero (fin false m e) s v = v.1
unsigned_zero (fin true m e) s v = (none (m * up e) (down e) v.1, refl)

empty : (n d : ℕ) → 0 < d → 0 * 1 ≡ n * d → n ≡ 0
empty zero d D e = refl
empty (suc n) d D e = absurd (go (suc n * d) (mul-pos (zero-lt-suc n) D) e)
  where
    go : (k : ℕ) → 0 < k → 0 * 1 ≡ k → ⊥
    go k h g = omega arith

-- what is not below 0
pub unsigned_not_below : (x : Float) (s : Bool) (n : ℕ) → HasValue x s n 1 → T (not (lt x nought)) → Unsigned x n
unfolding lt
unsigned_not_below nan s n v h = v
unsigned_not_below (inf t) s n v h = v
unsigned_not_below (fin false m e) s n v h = v.1
unsigned_not_below (fin true m e) s n v h =
    let z : m * up e ≡ 0 = zeros (m * up e) (down e) (nltb→le 0 (m * up e * 1 + 0 * 1 * down e) h) in
    (z, empty n (down e) (down_pos e) (ap (λ (k : ℕ). k * 1) (sym z) ∙ v.1))
  where
    zeros : (a d : ℕ) → a * 1 + 0 * 1 * d ≤ 0 → a ≡ 0
    zeros a d h = omega arith

capped : (n : ℕ) → n < 2 ^ 64 → min n (2 ^ 64 - 1) ≡ n
capped n h = omega arith

pub unsigned_cut : (x : Float) (n : ℕ) → Unsigned x n → n < 2 ^ 64 → to_unsigned 64 x ≡ n
unfolding to_unsigned
unsigned_cut nan n v h = absurd v
unsigned_cut (inf t) n v h = absurd v
unsigned_cut (fin false m e) n v h = ap (λ (k : ℕ). min k (2 ^ 64 - 1)) (quotient (m * up e) n (down e) (down_pos e) v) ∙ capped n h
unsigned_cut (fin true m e) n v h = sym v.1

-- what `truncating_f64_to_u64` asks
abbrev pub Asked : Float → Type 0
Asked x = T (lt (fin true 1 (pos 0)) x) × T (lt x (fin false 1 (pos 64)))

pub unsigned_asked : (x : Float) (n : ℕ) → Unsigned x n → n < 2 ^ 64 → Asked x
unfolding lt
unsigned_asked nan n v h = absurd v
unsigned_asked (inf t) n v h = absurd v
unsigned_asked (fin false m e) n v h =
    (lt→ltb 0 (1 * down e + m * up e * 1) (low (m * up e) (down e) (down_pos e)), lt→ltb (m * up e * 1) (18446744073709551616 * down e) (high (m * up e) (down e) (down_pos e) v))
  where
    low : (a d : ℕ) → 0 < d → 0 < 1 * d + a * 1
    low a d h = omega arith

    high : (a d : ℕ) → 0 < d → a * 1 ≡ n * d → a * 1 < 18446744073709551616 * d
    high a d D e = subst (λ (k : ℕ). k < 18446744073709551616 * d) (sym e) (mul-lt-mul_of_pos_right h D)
unsigned_asked (fin true m e) n v h =
    (lt→ltb (m * up e * 1) (1 * down e) (low (m * up e) (down e) v.0 (down_pos e)), lt→ltb 0 (m * up e * 1 + 18446744073709551616 * down e) (high (m * up e) (down e) (down_pos e)))
  where
    low : (a d : ℕ) → a ≡ 0 → 0 < d → a * 1 < 1 * d
    low a d z h = omega arith

    high : (a d : ℕ) → 0 < d → 0 < a * 1 + 18446744073709551616 * d
    high a d h = omega arith
