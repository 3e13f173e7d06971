-- A whole number near a small x: x + 3 * 2 ^ 51 less 3 * 2 ^ 51, which is less than 1 away from x. Assumes nothing.
use Rattle.std.specs.Prelude.{◌≡◌, ℕ, ◌+◌, ◌*◌, ◌^◌, ◌<◌, ◌≤◌, Bool, true, false, not, T, pos, refl, Float}
use Rattle.std.proofs.Common.{sym, ◌∙◌, subst, zero-mul, le_trans, le_of_eq, lt_of_le_of_lt, lt_of_mul-lt-mul_right, arith, lit≤, pow_pos}
use Rattle.std.specs.Float.{fin, binary64}
use Rattle.std.specs.Float.Ieee.{low, add, sub, neg, fits}
use Rattle.std.specs.Float.Ieee.Back.{round_whole}
use Rattle.std.specs.Float.Ieee.Exact.{HasValue}
use Rattle.std.specs.Float.Ieee.Fits.{add-fits}
use Rattle.std.specs.Float.Ieee.Scale.{finite}
use Rattle.laws.specs.AtMost.{AtMost, at_most_finite, add_at_most}
use Rattle.laws.specs.Operations.{dist, add_error}
use Rattle.laws.specs.Rounding.{Within}
use Rattle.laws.specs.Units.{is_neg, mag, part, plus, less, parts_mag}
use Rattle.laws.specs.WholeSums.{add_whole, sum_units}
use Rattle.laws.specs.WholeUnits.{units_of_whole, parts_of_whole, whole_of_units, units_at_most, large_whole}

-- 3 * 2 ^ 51, in the middle of the f64s whose last digit is worth 1
abbrev pub middle : Float
middle = fin false 3 (pos 51)

abbrev pub shifted : Float → Float
shifted x = add binary64 x middle

abbrev pub near : Float → Float
near x = sub binary64 (shifted x) middle

-- 2 ^ 50 at most in size
abbrev pub Small : Float → Type 0
Small x = AtMost x (2 ^ 50) 1

-- the units in 1
abbrev pub U : ℕ
U = 2 ^ low binary64

-- a - b is less than l away from p - q
abbrev pub Close : ℕ → ℕ → ℕ → ℕ → ℕ → Type 0
Close a b p q l = (a + q < b + p + l) × (b + p < a + q + l)

middle_fits : T (fits binary64 middle)
unfolding fits
middle_fits = tt

-- ---- the sum is less than 1 off: by one part in 2 ^ 53 at most of what is less than 2 ^ 53
off_by : (x y d : ℕ) → Within (2 ^ 53 * x) (2 ^ 53 * y) d → 2 ^ 53 * dist x y ≤ d
off_by x y d h = omega arith

few_units : (g d l : ℕ) → 0 < l → 2 ^ 53 * g ≤ d → d ≤ 7 * 2 ^ 50 * l → g < l
few_units g d l L h k = omega arith

apart_by : (x y l : ℕ) → dist x y < l → (x < y + l) × (y < x + l)
apart_by x y l h = (omega arith, omega arith)

off_less : (x y d l : ℕ) → 0 < l → d ≤ 7 * 2 ^ 50 * l → Within (2 ^ 53 * x) (2 ^ 53 * y) d → (x < y + l) × (y < x + l)
off_less x y d l L h w = apart_by x y l (few_units (dist x y) d l L (off_by x y d w) h)

-- ---- it is a whole number, since it lies between 2 ^ 52 and 2 ^ 53
between : (s : Bool) (w p q m m' l : ℕ) → p + q ≤ 2 ^ 50 * l → m ≡ 3 * 2 ^ 51 * l → m' ≡ 0 → Close (part s w) (part (not s) w) (p + m) (q + m') l
    → (s ≡ false) × (2 ^ 52 * l ≤ w) × (w < 2 ^ 53 * l)
between false w p q m m' l h e g k = (refl, omega arith, omega arith)
between true w p q m m' l h e g k = absurd (omega arith)

record Sum (x : Float) : Type 0 where
  n : ℕ
  value : HasValue (shifted x) false n 1
  under : n < 2 ^ 53
  close : Close (plus binary64 (shifted x)) (less binary64 (shifted x)) (plus binary64 x + plus binary64 middle) (less binary64 x + less binary64 middle) U

sum_is : (x : Float) → T (fits binary64 x) → Small x → Sum x
sum_is x F a =
    let z = shifted x in
    let G : T (fits binary64 z) = add-fits binary64 x middle in
    let u : T (finite z) = at_most_finite z (2 ^ 53) 1 (add_at_most binary64 x middle (2 ^ 50) 1 (3 * 2 ^ 51) 1 (2 ^ 53) 1 (lit≤ tt) (lit≤ tt) (lit≤ tt) (round_whole binary64 false (2 ^ 53) (lit≤ tt)) (lit≤ tt) a (lit≤ tt)) in
    let p = plus binary64 x in
    let q = less binary64 x in
    let m = parts_of_whole binary64 middle false (3 * 2 ^ 51) (refl, refl) in
    let h : p + q ≤ 2 ^ 50 * U = le_trans (le_of_eq (parts_mag binary64 x)) (units_at_most binary64 x (2 ^ 50) F a) in
    let o =
    off_less (plus binary64 z + (q + less binary64 middle)) (less binary64 z + (p + plus binary64 middle)) (dist (p + plus binary64 middle) (q + less binary64 middle)) U (pow_pos (low binary64))
    (far p q (plus binary64 middle) (less binary64 middle) U h m.0 (m.1 ∙ zero-mul U)) (add_error binary64 x middle F middle_fits u) in
    let r = between (is_neg z) (mag binary64 z) p q (plus binary64 middle) (less binary64 middle) U h m.0 (m.1 ∙ zero-mul U) o in
    let w = large_whole binary64 z G r.1 in
    record {
      n = w.0;
      value = subst (λ (s : Bool). HasValue z s w.0 1) r.0 (whole_of_units binary64 z w.0 G u w.1);
      under = lt_of_mul-lt-mul_right U (lt_of_le_of_lt (le_of_eq (sym w.1)) r.2);
      close = o;
    }
  where
    far : (p q m m' l : ℕ) → p + q ≤ 2 ^ 50 * l → m ≡ 3 * 2 ^ 51 * l → m' ≡ 0 → dist (p + m) (q + m') ≤ 7 * 2 ^ 50 * l
    far p q m m' l h e g = omega arith

-- ---- and so is near, the sum less 3 * 2 ^ 51, which is exact
moved : (a b c d p q m m' k k' l : ℕ) → a + (d + k') ≡ b + (c + k) → k ≡ 0 → k' ≡ m → m' ≡ 0 → Close c d (p + m) (q + m') l → Close a b p q l
moved a b c d p q m m' k k' l e f g i h = (omega arith, omega arith)

apart : (n : ℕ) → n < 2 ^ 53 → dist (n + 0) (0 + 3 * 2 ^ 51) ≤ 2 ^ 53
apart n h = omega arith

near_size : (s : Bool) (k n : ℕ) → n < 2 ^ 53 → part s k + (0 + 3 * 2 ^ 51) ≡ part (not s) k + (n + 0) → k + 1 ≤ 2 ^ 53
near_size false k n h e = omega arith
near_size true k n h e = omega arith

pub record Near (x : Float) : Type 0 where
  pub n : ℕ
  pub small : n + 1 ≤ 2 ^ 53
  pub value : HasValue (near x) (is_neg (near x)) n 1
  pub close : Close (plus binary64 (near x)) (less binary64 (near x)) (plus binary64 x) (less binary64 x) U
  pub zero_sign : n ≡ 0 → is_neg (near x) ≡ false
  pub known : T (finite x)

pub near_is : (x : Float) → T (fits binary64 x) → Small x → Near x
unfolding sub neg
near_is x F a =
    let d = sum_is x F a in
    let z = shifted x in
    let back = fin true 3 (pos 51) in
    let y = add_whole binary64 z back false d.n true (3 * 2 ^ 51) d.value (refl, refl) (apart d.n d.under) in
    let s = units_of_whole binary64 (near x) y.sign y.n y.value in
    let m = parts_of_whole binary64 middle false (3 * 2 ^ 51) (refl, refl) in
    let m' = parts_of_whole binary64 back true (3 * 2 ^ 51) (refl, refl) in
    record {
      n = y.n;
      small = near_size y.sign y.n d.n d.under y.sums;
      value = subst (λ (r : Bool). HasValue (near x) r y.n 1) (sym s.0) y.value;
      close =
          moved (plus binary64 (near x)) (less binary64 (near x)) (plus binary64 z) (less binary64 z) (plus binary64 x) (less binary64 x) (plus binary64 middle) (less binary64 middle) (plus binary64 back) (less binary64 back) U
          (sum_units binary64 z back false d.n true (3 * 2 ^ 51) d.value (refl, refl) y) refl (m'.1 ∙ sym m.0) (m.1 ∙ zero-mul U) d.close;
      zero_sign = λ e. s.0 ∙ y.zero_sign e;
      known = at_most_finite x (2 ^ 50) 1 a;
    }
