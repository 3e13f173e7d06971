-- The bit pattern of a rounded fraction: the number that is kept, with how many digits were dropped in the exponent's
-- field, and no more than an infinity's pattern. Over every format. Assumes nothing.
use Rattle.std.specs.Prelude.{◌≡◌, refl, Bool, not, cond, T, Float}
use Rattle.std.proofs.Common.{sym, ap, ◌∙◌, subst, suc-mul, zero-mul, zero-add, eq-zero-or-pos, le_trans, le_of_eq, le_antisymm, lt_of_lt_of_le, lt_of_le_of_lt, not-le_of_lt, mul-one, mul_comm, mul_assoc, mul-pos, mul-le-mul_left, mul-le-mul_right, mul-lt-mul_of_pos_right, div-one, div-lt_iff_lt-mul, le-div_iff_mul-le, pow-suc, arith, le-ltb, pow-add, pow_pos, pow_mono, shr_lt}
use Prim.Native.Nat.{ℕ, suc, ◌+◌, ◌-◌, ◌*◌, ◌/◌, ◌%◌, ◌^◌, ◌≤◌, ◌<◌, min, compare}
use Rattle.std.proofs.Math.Nat.{lt_of_mul-lt-mul_left, div-div-eq-div-mul, min-eq_left, min-eq_right}
use Rattle.std.specs.Float.{inf, Format}
use Rattle.std.specs.Float.Ieee.{prec, emax, low, hid, ones, top, size, units, round, is_nan, to_bits}
use Rattle.std.specs.Float.Ieee.Digits.{size-lt, size-le}
use Rattle.std.specs.Float.Ieee.Fits.{two, two-le_pos, kept-lt, nearest-le, round_is}
use Rattle.std.specs.Float.Ieee.Exact.{HasValue, units_val}
use Rattle.std.specs.Float.Ieee.Nearest.{closest, closest_same, div_same, nearest-ge}
use Rattle.std.specs.Float.Ieee.Order.{drop, kept}
use Rattle.std.specs.Float.Ieee.Scale.{overflow}
use Rattle.laws.specs.Cases.{either}
use Rattle.laws.specs.Numbers.{lt_or_le, pow_under}
use Rattle.laws.specs.Rounding.{half_unit, twice}
use Rattle.laws.specs.Units.{mag_of_value}
use Rattle.laws.specs.Values.{bits_of, to_bits_lem}
use Rattle.laws.specs.WholeUnits.{value_finite, value_number}
use Rattle.laws.specs.Patterns.{shifted_bits}

-- ---- what is kept: at most prec digits or 2 ^ prec, and with the leading digit where some were dropped
kept_le : (p n c : ℕ) → kept p n c ≤ 2 ^ p
kept_le p n c =
    let u = c * 2 ^ drop p n c in
    le_trans (nearest-le (n / u) (compare (n % u * 2) u)) (subst (λ (x : ℕ). x < 2 ^ p) (div-div-eq-div-mul n c (2 ^ drop p n c)) (kept-lt p (n / c)))

kept_ge : (p n c : ℕ) → 0 < p → 0 < c → 0 < drop p n c → 2 ^ (p - 1) ≤ kept p n c
kept_ge p n c P C K =
    let u = c * 2 ^ drop p n c in
    le_trans ((le-div_iff_mul-le (mul-pos C (pow_pos (drop p n c)))).1 (half_unit p n c P C K)) (nearest-ge (n / u) (compare (n % u * 2) u))

-- ---- v is w units with the sign s, or an infinity where that is too much
abbrev Holds : Format → Float → Bool → ℕ → Type 0
Holds f v s w = (w < overflow f → HasValue v s w (2 ^ low f)) × (overflow f ≤ w → v ≡ inf s)

units_holds : (f : Format) (s : Bool) (q k : ℕ) → Holds f (units f s q k) s (q * 2 ^ k)
unfolding units
units_holds f s q k = (units_val f s q k, λ h. rw (le-ltb (q * 2 ^ k) (overflow f) h))

-- what is rounded is a number
pub round_number : (f : Format) (s : Bool) (a c : ℕ) → T (not (is_nan (round f s a c)))
unfolding is_nan
round_number f s a c =
    let k = drop (prec f) (a * 2 ^ low f) c in
    let q = kept (prec f) (a * 2 ^ low f) c in
    let v = units f s q k in
    rw (round_is f s a c) (either (lt_or_le (q * 2 ^ k) (overflow f)) (λ h. value_number v s (q * 2 ^ k) (2 ^ low f) ((units_holds f s q k).0 h)) (λ h. rw ((units_holds f s q k).1 h) tt))

-- no more than an infinity's pattern
abbrev pub capped : Format → ℕ → ℕ
capped f n = min n (ones f * hid f)

pub inf_pattern : (f : Format) (s : Bool) → to_bits f (inf s) ≡ cond s (top f) 0 + ones f * hid f
unfolding to_bits
inf_pattern f s = refl

holds_bits : (f : Format) (v : Float) (s : Bool) (w n : ℕ) → Holds f v s w → bits_of f s w ≡ cond s (top f) 0 + n → (w < overflow f → n ≤ ones f * hid f) → (overflow f ≤ w → ones f * hid f ≤ n)
    → to_bits f v ≡ cond s (top f) 0 + capped f n
holds_bits f v s w n h e lo hi = either (lt_or_le w (overflow f))
    (λ l.
    let x = h.0 l in
    let m = mag_of_value f v s w x in
    to_bits_lem f v (value_finite v s w (2 ^ low f) x) ∙ rw (m.0, m.1, min-eq_left (lo l)) e)
    (λ l. ap (to_bits f) (h.1 l) ∙ inf_pattern f s ∙ rw (min-eq_right (hi l)))

overflow_is : (f : Format) → overflow f ≡ hid f * 2 ^ (2 * emax f)
overflow_is f = ap (λ (x : ℕ). 2 ^ x) (go (prec f) (emax f) (two f)) ∙ pow-add 2 (prec f - 1) (2 * emax f)
  where
    go : (p e : ℕ) → 2 ≤ p → e + p - 2 + suc e ≡ p - 1 + 2 * e
    go p e h = omega arith

place : (h k : ℕ) → h * 2 * 2 ^ k ≡ h * 2 ^ suc k
place h k = mul_assoc h 2 (2 ^ k) ∙ ap (λ (x : ℕ). h * x) (mul_comm 2 (2 ^ k) ∙ sym (pow-suc 2 k))

-- q of 2 ^ k units, with the leading digit h, are below h 2 ^ (2 e) units exactly where k is below 2 e
under : (h e q k : ℕ) → h ≤ q → q < h * 2 → q * 2 ^ k < h * 2 ^ (2 * e) → k * h + q ≤ (2 * e + 1) * h
under h e q k g l w =
    let a : k < 2 * e = pow_under (2 ^ k) k (2 * e) (lt_of_mul-lt-mul_left h (lt_of_le_of_lt (mul-le-mul_right (2 ^ k) g) w)) (le_of_eq refl) in
    let b : (k + 1) * h ≤ 2 * e * h = mul-le-mul_right h (omega arith) in
    omega arith

over : (h e q k : ℕ) → h ≤ q → q < h * 2 → h * 2 ^ (2 * e) ≤ q * 2 ^ k → (2 * e + 1) * h ≤ k * h + q
over h e q k g l w =
    let a : 2 * e < suc k = pow_under (2 ^ (2 * e)) (2 * e) (suc k) (lt_of_mul-lt-mul_left h (lt_of_le_of_lt w (lt_of_lt_of_le (mul-lt-mul_of_pos_right l (pow_pos k)) (le_of_eq (place h k))))) (le_of_eq refl) in
    let b : 2 * e * h ≤ k * h = mul-le-mul_right h (omega arith) in
    omega arith

lead : (f : Format) (v : Float) (s : Bool) (q k : ℕ) → Holds f v s (q * 2 ^ k) → hid f ≤ q → q < 2 ^ prec f → to_bits f v ≡ cond s (top f) 0 + capped f (k * hid f + q)
lead f v s q k h g l =
    let t : q < hid f * 2 = lt_of_lt_of_le l (le_of_eq (twice (prec f) (two-le_pos (prec f) (two f)))) in
    holds_bits f v s (q * 2 ^ k) (k * hid f + q) h (shifted_bits f s q k g l)
    (λ w. under (hid f) (emax f) q k g t (lt_of_lt_of_le w (le_of_eq (overflow_is f))))
    (λ w. over (hid f) (emax f) q k g t (le_trans (le_of_eq (sym (overflow_is f))) w))

-- fewer digits
small : (f : Format) (v : Float) (s : Bool) (q : ℕ) → Holds f v s q → q < hid f → to_bits f v ≡ cond s (top f) 0 + capped f q
small f v s q h l =
    holds_bits f v s q q h (bits (prec f) (size-le q (prec f - 1) l)) (λ w. low_enough (emax f) (hid f) l)
    (λ w. absurd (not-le_of_lt l (le_trans (le_of_eq (sym (mul-one (hid f)))) (le_trans (mul-le-mul_left (hid f) (pow_pos (2 * emax f))) (le_trans (le_of_eq (sym (overflow_is f))) w)))))
  where
    none : (z p : ℕ) → z ≤ p - 1 → z - p ≡ 0
    none z p h = omega arith

    bits : (p : ℕ) → size q ≤ p - 1 → cond s (top f) 0 + (size q - p) * hid f + q / 2 ^ (size q - p) ≡ cond s (top f) 0 + q
    bits p z = rw (none (size q) p z, div-one q) (omega arith)

    low_enough : (e h : ℕ) → q < h → q ≤ (2 * e + 1) * h
    low_enough e h l = omega arith

-- 2 ^ prec of 2 ^ k units are h of 2 ^ (k + 1), and their patterns are one number
carried : (f : Format) (s : Bool) (k : ℕ) → to_bits f (units f s (2 ^ prec f) k) ≡ cond s (top f) 0 + capped f (k * hid f + 2 ^ prec f)
carried f s k =
    let t : 2 ^ prec f ≡ hid f * 2 = twice (prec f) (two-le_pos (prec f) (two f)) in
    let w : 2 ^ prec f * 2 ^ k ≡ hid f * 2 ^ suc k = ap (λ (x : ℕ). x * 2 ^ k) t ∙ place (hid f) k in
    let n : suc k * hid f + hid f ≡ k * hid f + 2 ^ prec f = ap (λ (x : ℕ). x + hid f) (suc-mul k (hid f)) ∙ omega arith in
    lead f (units f s (2 ^ prec f) k) s (hid f) (suc k) (subst (Holds f (units f s (2 ^ prec f) k) s) w (units_holds f s (2 ^ prec f) k)) (le_of_eq refl) (omega (arith, pow_pos (prec f - 1)))
    ∙ ap (λ (x : ℕ). cond s (top f) 0 + capped f x) n

units_bits : (f : Format) (s : Bool) (q k : ℕ) → q ≤ 2 ^ prec f → (0 < k → hid f ≤ q) → to_bits f (units f s q k) ≡ cond s (top f) 0 + capped f (k * hid f + q)
units_bits f s q k l g = either (lt_or_le q (hid f)) few (λ h. either (lt_or_le q (2 ^ prec f)) (lead f (units f s q k) s q k (units_holds f s q k) h) all)
  where
    few : q < hid f → to_bits f (units f s q k) ≡ cond s (top f) 0 + capped f (k * hid f + q)
    few h =
        let z : k ≡ 0 = either (eq-zero-or-pos k) (λ e. e) (λ o. absurd (not-le_of_lt h (g o))) in
        rw (z, zero-mul (hid f), zero-add q) (small f (units f s q 0) s q (subst (Holds f (units f s q 0) s) (mul-one q) (units_holds f s q 0)) h)

    all : 2 ^ prec f ≤ q → to_bits f (units f s q k) ≡ cond s (top f) 0 + capped f (k * hid f + q)
    all h = rw (le_antisymm l h) (carried f s k)

-- the law: `kept` numbers of 2 ^ `drop` units
pub round_bits : (f : Format) (s : Bool) (a c : ℕ) → 0 < c
    → to_bits f (round f s a c) ≡ cond s (top f) 0 + capped f (drop (prec f) (a * 2 ^ low f) c * hid f + kept (prec f) (a * 2 ^ low f) c)
round_bits f s a c C =
    let p = prec f in
    let n = a * 2 ^ low f in
    rw (round_is f s a c) (units_bits f s (kept p n c) (drop p n c) (kept_le p n c) (kept_ge p n c (two-le_pos p (two f)) C))

-- ---- a whole number w of 2 ^ -(low + d), so of units cut in 2 ^ d: its digits count from there
size_cut : (w d : ℕ) → size (w / 2 ^ d) ≡ size w - d
size_cut w d =
    let z = size (w / 2 ^ d) in
    le_antisymm (size-le (w / 2 ^ d) (size w - d) (shr_lt (size w - d) d (lt_of_lt_of_le (size-lt w) (pow_mono (cover (size w) d)))))
    (most (size w) d z (size-le w (z + d) (lt_of_lt_of_le ((div-lt_iff_lt-mul (pow_pos d)).0 (size-lt (w / 2 ^ d))) (le_of_eq (sym (pow-add 2 z d))))))
  where
    cover : (a d : ℕ) → a ≤ a - d + d
    cover a d = omega arith

    most : (a d z : ℕ) → a ≤ z + d → a - d ≤ z
    most a d z h = omega arith

pub cut_bits : (f : Format) (s : Bool) (w d k : ℕ) → size w - d - prec f ≡ k
    → to_bits f (round f s w (2 ^ (low f + d))) ≡ cond s (top f) 0 + capped f (k * hid f + closest w (2 ^ (d + k)))
cut_bits f s w d k e =
    let l = low f in
    let n = w * 2 ^ l in
    let c = 2 ^ (l + d) in
    let x : n * 2 ^ d ≡ w * c = mul_assoc w (2 ^ l) (2 ^ d) ∙ ap (λ (y : ℕ). w * y) (sym (pow-add 2 l d)) in
    let z : drop (prec f) n c ≡ k = ap (λ (y : ℕ). size y - prec f) (div_same n c w (2 ^ d) (pow_pos (l + d)) (pow_pos d) x) ∙ ap (λ (y : ℕ). y - prec f) (size_cut w d) ∙ e in
    let y : n * 2 ^ (d + k) ≡ w * (c * 2 ^ k) = ap (λ (z : ℕ). n * z) (pow-add 2 d k) ∙ sym (mul_assoc n (2 ^ d) (2 ^ k)) ∙ ap (λ (z : ℕ). z * 2 ^ k) x ∙ mul_assoc w c (2 ^ k) in
    round_bits f s w c (pow_pos (l + d))
    ∙ ap (λ (j : ℕ). cond s (top f) 0 + capped f (j * hid f + closest n (c * 2 ^ j))) z
    ∙ ap (λ (q : ℕ). cond s (top f) 0 + capped f (k * hid f + q)) (closest_same n (c * 2 ^ k) w (2 ^ (d + k)) (mul-pos (pow_pos (l + d)) (pow_pos k)) (pow_pos (d + k)) y)
