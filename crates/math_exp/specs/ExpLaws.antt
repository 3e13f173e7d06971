-- What the exponential rests on: from −700 to 0 the number of doublings is a whole number from −1012 to 0, and a bit
-- pattern is a power of two. Assumes nothing.
use Rattle.std.specs.Prelude.{◌≡◌, ℕ, zero, suc, ◌+◌, ◌-◌, ◌*◌, ◌/◌, ◌%◌, ◌^◌, ◌<◌, ◌≤◌, Bool, true, false, cond, not, T, ◌⊎◌, ℤ, pos, negsuc, neg_ℤ, ◌≢◌, nat_le, nat_lt, unsigned_abs, refl, Float}
use Rattle.std.proofs.Math.Path.{sym}
use Rattle.std.proofs.Common.{ap, ◌∙◌, subst, inl, inr, le_trans, lt_of_le_of_lt, mul-pos, mul-le-mul_right, div-lt_iff_lt-mul, arith, true≢false, lit≤, nltb→le, ne_eqb}
use Rattle.std.proofs.lemmas.Bool.{lt-leb}
use Rattle.std.specs.Float.{nan, inf, fin, Format, binary64}
use Rattle.std.specs.Float.Ieee.{prec, emax, low, of_bits, of_fields, is_nan, nan_bits, of_int, odd, units, minus, up, down, neg, sum, add, div, round, lt, le, unlike, to_unsigned, fits}
use Rattle.std.specs.Float.Ieee.Back.{round_whole}
use Rattle.std.specs.Float.Ieee.Exact.{HasValue}
use Rattle.std.specs.Float.Ieee.Fits.{div-fits, down_pos, round_is}
use Rattle.std.specs.Float.Ieee.Bits.{nan_bits_is}
use Rattle.std.specs.Float.Ieee.Order.{drop, kept}
use Rattle.laws.specs.AtMost.{AtMost, at_most_finite, of_le, round_at_most, mul_at_most, add_at_most, floor_at_most}
use Rattle.laws.specs.Binary64.{◌⊕◌, ◌⊗◌, ◌⊘◌, whole, fraction, ln2}
use Rattle.laws.specs.Floor.{floor_z}
use Rattle.laws.specs.Operations.{mul_error}
use Rattle.laws.specs.Tests.{holds, fails}
use Rattle.laws.specs.Units.{is_neg}
use Rattle.laws.specs.WholeValues.{floor_of_whole, neg_value, Unsigned, unsigned_of, unsigned_zero, unsigned_cut, unsigned_asked, Asked}
use Rattle.math_round.specs.Laws.{floor_value}
use Rattle.math_round.specs.Whole.{floor_of}
use Rattle.math_exp.specs.Exp.{doublings, rest, exp_series, two_to, exp_of}

-- ---- how far below 0 the number of doublings can be
-- k is -n, a power of two's exponent that an f64 has a field for
pub record Below (k : Float) : Type 0 where
  pub n : ℕ
  pub value : Unsigned (neg k) n
  pub floor : floor_z k ≡ neg_ℤ (pos n)
  pub small : n ≤ 1022

-- an argument in range: below 0 and 700 at most in size, or a zero
data Side (x : Float) : Type 0 where
  below : is_neg x ≡ true → AtMost x 700 1 → Side x
  none : AtMost x 0 1 → Side x

zero_value : HasValue (whole 0) false 0 1
unfolding of_int
zero_value = (refl, refl)

side : (x : Float) → lt x (neg (whole 700)) ≡ false → le x (whole 0) ≡ true → Side x
unfolding lt le neg of_int
side nan h g = absurd (true≢false (sym g))
side (inf true) h g = absurd (true≢false h)
side (inf false) h g = absurd (true≢false (sym g))
side (fin true m e) h g = below refl (nltb→le (700 * down e) (m * up e * 1) (fails h))
side (fin false m e) h g = none (of_le (fin false m e) (whole 0) (m * up e) (down e) 0 1 (refl, refl) zero_value (holds g))

-- ---- a number that is not above 0, and a half, has a floor that is not above 0
-- y is below 0, or its floor is 0
abbrev NotAbove : Float → Type 0
NotAbove y = (is_neg y ≡ true) ⊎ (unsigned_abs (floor_z y) ≡ 0)

of_half : (y : Float) → AtMost y 1 2 → NotAbove y
unfolding floor_z
of_half nan h = absurd h
of_half (inf s) h = absurd h
of_half (fin true m e) h = inl refl
of_half (fin false m e) h = inr (no_more ((div-lt_iff_lt-mul (down_pos e)).1 (less (m * up e) (down e) (down_pos e) h)))
  where
    less : (a d : ℕ) → 0 < d → a * 2 ≤ 1 * d → a < 1 * d
    less a d D h = omega arith

    no_more : {n : ℕ} → n < 1 → n ≡ 0
    no_more h = omega arith

odd_neg : (D : ℕ) (s : Bool) (q k l : ℕ) → is_neg (odd D s q k l) ≡ s
unfolding odd
odd_neg D s zero k l = refl
odd_neg D s (suc q) k l = refl

units_neg : (f : Format) (s : Bool) (q k : ℕ) → is_neg (units f s q k) ≡ s
unfolding units
units_neg f s q k = go (nat_lt (q * 2 ^ k) (2 ^ (low f + suc (emax f))))
  where
    go : (b : Bool) → is_neg (cond b (odd (suc (prec f)) s q k (low f)) (inf s)) ≡ s
    go true = odd_neg (suc (prec f)) s q k (low f)
    go false = refl

round_neg : (f : Format) (s : Bool) (a c : ℕ) → is_neg (round f s a c) ≡ s
round_neg f s a c = ap is_neg (round_is f s a c) ∙ units_neg f s (kept (prec f) (a * 2 ^ low f) c) (drop (prec f) (a * 2 ^ low f) c)

half_value : HasValue (round binary64 false 1 2) false 1 2
unfolding round
half_value = (refl, refl)

-- -a / c and b / c, which is 1 / 2
sum_half : (a b c : ℕ) → 0 < c → b * 2 ≤ 1 * c → NotAbove (sum binary64 true a false b c)
unfolding sum
sum_half a b c C h = go (nat_lt a b) (nat_lt b a) (nltb→le a b) (nltb→le b a)
  where
    part : (s : Bool) (n : ℕ) → n ≤ b → NotAbove (round binary64 s n c)
    part s n l = of_half (round binary64 s n c) (round_at_most binary64 s n c 1 2 C (lit≤ tt) half_value (le_trans (mul-le-mul_right 2 l) h))

    less : (a b : ℕ) → b - a ≤ b
    less a b = omega arith

    same : (a b : ℕ) → a ≤ b → a - b ≤ b
    same a b h = omega arith

    go : (x y : Bool) → (T (not x) → b ≤ a) → (T (not y) → a ≤ b) → NotAbove (cond x (round binary64 false (b - a) c) (round binary64 y (a - b) c))
    go true y p q = part false (b - a) (less a b)
    go false true p q = inl (round_neg binary64 true (a - b) c)
    go false false p q = part false (a - b) (same a b (q tt))

and_half : (p : Float) → is_neg p ≡ true → NotAbove (p ⊕ fraction 1 2)
unfolding add round
and_half nan h = absurd (true≢false (sym h))
and_half (inf true) h = inl refl
and_half (inf false) h = absurd (true≢false (sym h))
and_half (fin false m e) h = absurd (true≢false (sym h))
and_half (fin true m e) h = sum_half (m * up e * 2) (1 * 1 * down e) (down e * 2) (mul-pos (down_pos e) (lit≤ tt)) (twice (down e))
  where
    twice : (d : ℕ) → 1 * 1 * d * 2 ≤ 1 * (d * 2)
    twice d = omega arith

-- ---- so the number of doublings is not above 0
scale : AtMost (whole 1 ⊘ ln2) 1443 1000
unfolding div of_int of_bits
scale = lit≤ tt

scale_clear : is_neg (whole 1 ⊘ ln2) ≡ false
unfolding div of_int of_bits
scale_clear = refl

half : AtMost (fraction 1 2) 1 2
unfolding round
half = lit≤ tt

record Doubled (y : Float) : Type 0 where
  most : AtMost y 1012 1
  side : NotAbove y

wider : (y : Float) → AtMost y 1 2 → AtMost y 1012 1
wider nan h = h
wider (inf s) h = h
wider (fin s m e) h = go (m * up e) (down e) h
  where
    go : (a d : ℕ) → a * 2 ≤ 1 * d → a * 1 ≤ 1012 * d
    go a d h = omega arith

doubled : (x : Float) → T (fits binary64 x) → Side x → Doubled (x ⊗ (whole 1 ⊘ ln2) ⊕ fraction 1 2)
doubled x t (none h) =
    let c = whole 1 ⊘ ln2 in
    let p : AtMost (x ⊗ c) 0 1 = mul_at_most binary64 x c 0 1 1443 1000 0 1 (lit≤ tt) (lit≤ tt) (round_whole binary64 false 0 (lit≤ tt)) (lit≤ tt) h scale in
    let y : AtMost (x ⊗ c ⊕ fraction 1 2) 1 2 = add_at_most binary64 (x ⊗ c) (fraction 1 2) 0 1 1 2 1 2 (lit≤ tt) (lit≤ tt) (lit≤ tt) half_value (lit≤ tt) p half in
    record { most = wider (x ⊗ c ⊕ fraction 1 2) y; side = of_half (x ⊗ c ⊕ fraction 1 2) y }
doubled x t (below s h) =
    let c = whole 1 ⊘ ln2 in
    let p : AtMost (x ⊗ c) 1011 1 = mul_at_most binary64 x c 700 1 1443 1000 1011 1 (lit≤ tt) (lit≤ tt) (round_whole binary64 false 1011 (lit≤ tt)) (lit≤ tt) h scale in
    let g : is_neg (x ⊗ c) ≡ unlike (is_neg x) (is_neg c) = (mul_error binary64 x c t (div-fits binary64 (whole 1) ln2) (at_most_finite (x ⊗ c) 1011 1 p)).0 in
    record {
      most = add_at_most binary64 (x ⊗ c) (fraction 1 2) 1011 1 1 2 1012 1 (lit≤ tt) (lit≤ tt) (lit≤ tt) (round_whole binary64 false 1012 (lit≤ tt)) (lit≤ tt) p half;
      side = and_half (x ⊗ c) (g ∙ ap (λ (z : Bool). unlike z (is_neg c)) s ∙ ap (λ (z : Bool). unlike true z) scale_clear);
    }

to_below : (k : Float) (s : Bool) (n : ℕ) → n ≤ 1022 → HasValue k s n 1 → (s ≡ true) ⊎ (n ≡ 0) → Below k
to_below k true n l v w = record { n = n; value = unsigned_of (neg k) n (neg_value k true n 1 v); floor = floor_of_whole k true n v; small = l }
to_below k false n l v (inl h) = absurd (true≢false (sym h))
to_below k false n l v (inr h) =
    let v0 : HasValue k false 0 1 = subst (λ (z : ℕ). HasValue k false z 1) h v in
    record { n = 0; value = unsigned_zero (neg k) true (neg_value k false 0 1 v0); floor = floor_of_whole k false 0 v0; small = lit≤ tt }

pub doublings_below : (x : Float) → T (fits binary64 x) → lt x (neg (whole 700)) ≡ false → le x (whole 0) ≡ true → Below (doublings x)
unfolding doublings
doublings_below x t h g =
    let y = x ⊗ (whole 1 ⊘ ln2) ⊕ fraction 1 2 in
    let d = doubled x t (side x h g) in
    let n : unsigned_abs (floor_z y) ≤ 1012 = floor_at_most y 1012 d.most in
    to_below (floor_of y) (is_neg y) (unsigned_abs (floor_z y)) (le_trans n (lit≤ tt)) (floor_value y (at_most_finite y 1012 1 d.most) (le_trans n (lit≤ tt))) d.side

-- ---- what the code asks of k
pub below_asked : (k : Float) → Below k → Asked (neg k)
below_asked k b = unsigned_asked (neg k) b.n b.value (lt_of_le_of_lt b.small (lit≤ tt))

pub below_cut : (k : Float) (b : Below k) → to_unsigned 64 (neg k) ≡ b.n
below_cut k b = unsigned_cut (neg k) b.n b.value (lt_of_le_of_lt b.small (lit≤ tt))

-- ---- the bit pattern with the exponent's field 1023 - n and no digit is 2 ^ -n
field : (x : ℕ) → x ≤ 1022 → of_fields binary64 false (suc x) 0 ≡ fin false 1 (minus (x + 52) 1074)
unfolding of_fields odd
field x h = ap (λ (b : Bool). cond b (inf false) (fin false 1 (minus (x + 52) 1074))) (ne_eqb (suc x) 2047 (λ (e : suc x ≡ 2047). clash x h e))
  where
    clash : (x : ℕ) → x ≤ 1022 → suc x ≢ 2047
    clash x h e = omega arith

exponent : (n x : ℕ) → x + n ≡ 1022 → minus (x + 52) 1074 ≡ neg_ℤ (pos n)
exponent zero x e = ap (λ (z : ℕ). minus (z + 52) 1074) (go x e)
  where
    go : (x : ℕ) → x + 0 ≡ 1022 → x ≡ 1022
    go x e = omega arith
exponent (suc n) x e = ap (λ (b : Bool). cond b (pos (x + 52 - 1074)) (negsuc (1074 - suc (x + 52)))) (lt-leb 1074 (x + 52) (low x n e)) ∙ ap negsuc (rest x n e)
  where
    low : (x n : ℕ) → x + suc n ≡ 1022 → x + 52 < 1074
    low x n e = omega arith

    rest : (x n : ℕ) → x + suc n ≡ 1022 → 1074 - suc (x + 52) ≡ n
    rest x n e = omega arith

-- the fields of x * 2 ^ 52
sign_clear : (x : ℕ) → x ≤ 1023 → nat_le 9223372036854775808 (x * 4503599627370496) ≡ false
sign_clear x h = lt-leb 9223372036854775808 (x * 4503599627370496) (go x h)
  where
    go : (x : ℕ) → x ≤ 1023 → x * 4503599627370496 < 9223372036854775808
    go x h = omega arith

field_is : (x : ℕ) → x ≤ 1023 → x * 4503599627370496 % 9223372036854775808 / 4503599627370496 ≡ x
field_is x h = omega arith

digits_none : (x : ℕ) → x * 4503599627370496 % 4503599627370496 ≡ 0
digits_none x = omega arith

pub power_bits : (n x : ℕ) → x + n ≡ 1022 → of_bits binary64 (suc x * 4503599627370496) ≡ fin false 1 (neg_ℤ (pos n))
unfolding of_bits
power_bits n x e =
    let l : x ≤ 1022 = omega arith in
    let l' : suc x ≤ 1023 = omega arith in
    rw (sign_clear (suc x) l', field_is (suc x) l', digits_none (suc x)) (field x l ∙ ap (λ (z : ℤ). fin false 1 z) (exponent n x e))

pub power_no_nan : (n x : ℕ) → x + n ≡ 1022 → T (not (nan_bits binary64 (suc x * 4503599627370496)))
unfolding is_nan
power_no_nan n x e = rw (nan_bits_is binary64 (suc x * 4503599627370496), power_bits n x e) tt

-- ---- the function's three ranges
module _ (x : Float) where
  pub below_700 : lt x (neg (whole 700)) ≡ true → whole 0 ≡ exp_of x
  unfolding exp_of
  below_700 h = sym (rw h)

  pub exp_inside : lt x (neg (whole 700)) ≡ false → le x (whole 0) ≡ true → exp_series (rest x) ⊗ two_to (floor_z (doublings x)) ≡ exp_of x
  unfolding exp_of
  exp_inside h g = sym (rw (h, g))

  pub above_0 : lt x (neg (whole 700)) ≡ false → le x (whole 0) ≡ false → nan ≡ exp_of x
  unfolding exp_of
  above_0 h g = sym (rw (h, g))
