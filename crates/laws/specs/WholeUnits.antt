-- A whole number in units of its format's smallest value, 2 ^ low to the 1, and from 2 ^ (prec - 1) on every value is
-- one. Assumes nothing.
use Rattle.std.specs.Prelude.{◌≡◌, refl, Bool, true, false, not, ℕ, ◌+◌, ◌-◌, ◌*◌, ◌/◌, ◌^◌, ◌≤◌, ◌<◌, T, Float}
use Rattle.std.proofs.Common.{sym, ap, ◌∙◌, subst, le_trans, le_of_eq, zero-mul, mul-one, mul_assoc, mul_right_comm, mul-div_cancel, mul-le-mul_right, le_of_mul-le-mul_right, arith, pow-add, pow_pos, shl_lt}
use Rattle.std.proofs.Math.Nat.{eq_of_mul-eq-mul_right}
use Rattle.std.specs.Float.{nan, inf, fin, Format}
use Rattle.std.specs.Float.Ieee.{prec, low, up, down, fits, is_nan}
use Rattle.std.specs.Float.Ieee.Exact.{HasValue}
use Rattle.std.specs.Float.Ieee.Fits.{down_pos, two, two-le_pos}
use Rattle.std.specs.Float.Ieee.Scale.{finite}
use Rattle.laws.specs.AtMost.{AtMost}
use Rattle.laws.specs.Numbers.{pow_split, pow_under}
use Rattle.laws.specs.Units.{mag, is_neg, part, plus, less, mag_cross, digits}

-- ---- what has a value is finite, and a number
pub value_finite : (x : Float) (s : Bool) (n c : ℕ) → HasValue x s n c → T (finite x)
value_finite nan s n c v = v
value_finite (inf t) s n c v = v
value_finite (fin t m e) s n c v = tt

pub value_number : (x : Float) (s : Bool) (n c : ℕ) → HasValue x s n c → T (not (is_nan x))
unfolding is_nan
value_number nan s n c v = v
value_number (inf t) s n c v = tt
value_number (fin t m e) s n c v = tt

-- ---- from the number to its units, and back
pub units_of_whole : (f : Format) (x : Float) (s : Bool) (n : ℕ) → HasValue x s n 1 → (is_neg x ≡ s) × (mag f x ≡ n * 2 ^ low f)
unfolding mag
units_of_whole f nan s n v = absurd v
units_of_whole f (inf t) s n v = absurd v
units_of_whole f (fin t m e) s n v = (
  v.0,
  ap (λ (z : ℕ). z * 2 ^ low f / down e) (sym (mul-one (m * up e)) ∙ v.1) ∙ ap (λ (z : ℕ). z / down e) (mul_right_comm n (down e) (2 ^ low f)) ∙ mul-div_cancel (n * 2 ^ low f) (down_pos e),
)

part_times : (s : Bool) (n l : ℕ) → part s (n * l) ≡ part s n * l
part_times false n l = refl
part_times true n l = sym (zero-mul l)

pub parts_of_whole : (f : Format) (x : Float) (s : Bool) (n : ℕ) → HasValue x s n 1 → (plus f x ≡ part s n * 2 ^ low f) × (less f x ≡ part (not s) n * 2 ^ low f)
parts_of_whole f x s n v = let u = units_of_whole f x s n v in (rw (u.0, u.1) (part_times s n (2 ^ low f)), rw (u.0, u.1) (part_times (not s) n (2 ^ low f)))

pub whole_of_units : (f : Format) (x : Float) (n : ℕ) → T (fits f x) → T (finite x) → mag f x ≡ n * 2 ^ low f → HasValue x (is_neg x) n 1
whole_of_units f nan n t u h = u
whole_of_units f (inf s) n t u h = u
whole_of_units f (fin s m e) n t u h = (
  refl,
  mul-one (m * up e)
      ∙ eq_of_mul-eq-mul_right (2 ^ low f) (pow_pos (low f)) (m * up e) (n * down e) (sym (mag_cross f s m e t) ∙ ap (λ (z : ℕ). z * down e) h ∙ mul_right_comm n (2 ^ low f) (down e)),
)

-- what is n at most in size
pub units_at_most : (f : Format) (x : Float) (n : ℕ) → T (fits f x) → AtMost x n 1 → mag f x ≤ n * 2 ^ low f
units_at_most f nan n t h = absurd h
units_at_most f (inf s) n t h = absurd h
units_at_most f (fin s m e) n t h =
    le_of_mul-le-mul_right
    (le_trans (le_of_eq (mag_cross f s m e t)) (le_trans (mul-le-mul_right (2 ^ low f) (le_trans (le_of_eq (sym (mul-one (m * up e)))) h)) (le_of_eq (mul_right_comm n (down e) (2 ^ low f)))))
    (down_pos e)

-- ---- the last of prec digits is worth 1 or more
pub large_whole : (f : Format) (x : Float) → T (fits f x) → 2 ^ (prec f - 1) * 2 ^ low f ≤ mag f x → (n : ℕ) × (mag f x ≡ n * 2 ^ low f)
large_whole f x t h =
    let d = digits f x t in
    let j = d.1 in
    let a : mag f x < 2 ^ (prec f + j) = subst (λ (z : ℕ). z < 2 ^ (prec f + j)) (sym d.3) (shl_lt (prec f) j d.2) in
    let b : prec f - 1 + low f < prec f + j = pow_under (mag f x) (prec f - 1 + low f) (prec f + j) a (le_trans (le_of_eq (pow-add 2 (prec f - 1) (low f))) h) in
    let l : low f ≤ j = enough (prec f) (low f) j (two-le_pos (prec f) (two f)) b in
    (d.0 * 2 ^ (j - low f), d.3 ∙ ap (λ (z : ℕ). d.0 * z) (pow_split (low f) j l) ∙ sym (mul_assoc d.0 (2 ^ (j - low f)) (2 ^ low f)))
  where
    enough : (p l j : ℕ) → 0 < p → p - 1 + l < p + j → l ≤ j
    enough p l j P h = omega arith
