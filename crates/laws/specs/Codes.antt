-- Values as codes of 16 bits: q is 32768 * t + 0.5, rounded and then cut down to a whole number. How far codes are from
-- their values, one and all together, and how large a value with a code can be. Assumes nothing.
use Rattle.std.specs.Prelude.{◌≡◌, refl, List, [], ◌∷◌, ℕ, suc, ◌+◌, ◌-◌, ◌*◌, ◌^◌, ◌≤◌, ◌<◌, Bool, true, false, not, ◌&&◌, T, leb, length, ℤ, pos, negsuc, nat_abs, Float}
use Rattle.std.proofs.Common.{sym, ap, ◌∙◌, subst, zero-le, zero-mul, one-mul, mul_assoc, mul-pos, mul-le-mul_left, mul-le-mul_right, le_of_lt, arith, lit≤, leb→le, pow-add, pow_pos}
use Rattle.std.proofs.Math.Dec.{nleb→lt}
use Rattle.std.specs.Float.{nan, inf, fin, Format, binary32, binary64}
use Rattle.std.specs.Float.Ieee.{prec, low, up, down, unlike, round, add, mul, fits}
use Rattle.std.specs.Float.Ieee.Fits.{down_pos, mul-fits, add-fits, and_l, and_r}
use Rattle.std.specs.Float.Ieee.Scale.{grid, finite}
use Rattle.laws.specs.Rounding.{Within, grid_exact}
use Rattle.laws.specs.Units.{parts_mag, mag, is_neg, part, plus, less, mag_cross, mag_of_value, round_value, digits}
use Rattle.laws.specs.Operations.{dist, Close, add_finite, add_error}
use Rattle.laws.specs.Floor.{floor_z, pos_part, neg_part, floor_units}
use Rattle.laws.specs.SumError.{sum_of, Each, dist_le}

-- ---- definitions
-- 2^15 and 1/2
abbrev pub big : Float
big = fin false 1 (pos 15)

abbrev pub half : Float
half = fin false 1 (negsuc 0)

-- 32768 * t + 0.5, each operation rounded once
abbrev pub moved : Format → Float → Float
moved f t = add f (mul f t big) half

abbrev pub code : Format → Float → ℤ
code f t = floor_z (moved f t)

-- ---- the product with a power of two is exact
wide : (w c m u d l k : ℕ) → w * d ≡ m * u * l → m * u * (1 * k) * l ≡ w * k * (d * 1)
wide w c m u d l k e = let h : w * d * k ≡ m * u * l * k = ap (λ (z : ℕ). z * k) e in omega arith

like : (s : Bool) → unlike s false ≡ s
like false = refl
like true = refl

pub mul_exact : (f : Format) (x : Float) (k : ℕ) → T (fits f x) → T (finite (mul f x (fin false 1 (pos k))))
    → (is_neg (mul f x (fin false 1 (pos k))) ≡ is_neg x) × (mag f (mul f x (fin false 1 (pos k))) ≡ mag f x * 2 ^ k)
unfolding mul
mul_exact f nan k a t = absurd t
mul_exact f (inf s) k a t = absurd t
mul_exact f (fin s m e) k a t =
    let w = mag f (fin s m e) in
    let d = digits f (fin s m e) a in
    let n = m * up e * (1 * 2 ^ k) in
    let c = down e * 1 in
    let C : 0 < c = mul-pos (down_pos e) (pow_pos 0) in
    let g : grid f n c ≡ w * 2 ^ k = grid_exact f n c (w * 2 ^ k) d.0 (d.1 + k) C (wide w c m (up e) (down e) (2 ^ low f) (2 ^ k) (mag_cross f s m e a))
    (ap (λ (z : ℕ). z * 2 ^ k) d.3 ∙ mul_assoc d.0 (2 ^ d.1) (2 ^ k) ∙ ap (λ (z : ℕ). d.0 * z) (sym (pow-add 2 d.1 k))) d.2 in
    let v = mag_of_value f (round f (unlike s false) n c) (unlike s false) (grid f n c) (round_value f (unlike s false) n c t) in
    (v.0 ∙ like s, v.1 ∙ g)

-- ---- a half
half_fits : (f : Format) → T (fits f half)
unfolding fits
half_fits binary32 = tt
half_fits binary64 = tt

half_mag : (f : Format) → mag f half * 2 ≡ 1 * 1 * 2 ^ low f
half_mag f = mag_cross f false 1 (negsuc 0) (half_fits f)

-- ---- one code
-- P is 2 ^ prec, K is 2 ^ 15, L is 2 ^ low, h is half of L; w and z are the parts of the moved value, tp and tn of t,
-- qp and qn of the code
tap : (P K L h tp tn wp wn qp qn D : ℕ) → h * 2 ≡ L
    → Within (P * (wp + (tn * K + 0))) (P * (wn + (tp * K + h))) D → D ≤ (tp * K + h) + (tn * K + 0)
    → qp * L + wn ≤ qn * L + wp → qn * L + wp < qp * L + wn + L
    → Within (2 * P * (qp * L + tn * K)) (2 * P * (qn * L + tp * K)) (P * L + 2 * ((tp + tn) * K) + L)
tap P K L h tp tn wp wn qp qn D e g d u v =
    let u' : P * (qp * L + wn) ≤ P * (qn * L + wp) = mul-le-mul_left P u in
    let v' : P * (qn * L + wp) ≤ P * (qp * L + wn + L) = mul-le-mul_left P (le_of_lt v) in
    let x : P * (h * 2) ≡ P * L = ap (λ (z : ℕ). P * z) e in
    omega arith

part_mul : (s : Bool) (n k : ℕ) → part s (n * k) ≡ part s n * k
part_mul false n k = refl
part_mul true n k = sym (zero-mul k)

pub code_error : (f : Format) (t : Float) → T (fits f t) → T (finite (moved f t))
    → Within (2 * 2 ^ prec f * (pos_part (code f t) * 2 ^ low f + less f t * 2 ^ 15)) (2 * 2 ^ prec f * (neg_part (code f t) * 2 ^ low f + plus f t * 2 ^ 15)) (2 ^ prec f * 2 ^ low f + 2 * ((plus f t + less f t) * 2 ^ 15) + 2 ^ low f)
code_error f t a u =
    let v = mul f t big in
    let w = moved f t in
    let m = mul_exact f t 15 a (add_finite f v half u).0 in
    let pv : plus f v ≡ plus f t * 2 ^ 15 = ap (λ (s : Bool). part s (mag f v)) m.0 ∙ ap (λ (n : ℕ). part (is_neg t) n) m.1 ∙ part_mul (is_neg t) (mag f t) (2 ^ 15) in
    let lv : less f v ≡ less f t * 2 ^ 15 = ap (λ (s : Bool). part (not s) (mag f v)) m.0 ∙ ap (λ (n : ℕ). part (not (is_neg t)) n) m.1 ∙ part_mul (not (is_neg t)) (mag f t) (2 ^ 15) in
    let h = mag f half in
    let D = dist (plus f v + h) (less f v + 0) in
    let E : Close f w (plus f v + h) (less f v + 0) D = add_error f v half (mul-fits f t big) (half_fits f) u in
    let d : D ≤ (plus f v + h) + (less f v + 0) = dist_le (plus f v + h) (less f v + 0) in
    let F = floor_units f w (add-fits f v half) u in
    let P = 2 ^ prec f in
    let both : Within (P * (plus f w + (less f t * 2 ^ 15 + 0))) (P * (less f w + (plus f t * 2 ^ 15 + h))) D × (D ≤ (plus f t * 2 ^ 15 + h) + (less f t * 2 ^ 15 + 0)) =
    subst (λ (x : ℕ). Within (P * (plus f w + (less f t * 2 ^ 15 + 0))) (P * (less f w + (x + h))) D × (D ≤ (x + h) + (less f t * 2 ^ 15 + 0))) pv
    (subst (λ (x : ℕ). Within (P * (plus f w + (x + 0))) (P * (less f w + (plus f v + h))) D × (D ≤ (plus f v + h) + (x + 0))) lv (E, d)) in
    tap P (2 ^ 15) (2 ^ low f) h (plus f t) (less f t) (plus f w) (less f w) (pos_part (code f t)) (neg_part (code f t)) D (half_mag f ∙ one-mul (2 ^ low f)) both.0 both.1 F.0 F.1

-- ---- all codes
-- the moved value is finite, and the code has 16 bits
abbrev pub coded : Format → Float → Bool
coded f t = finite (moved f t) && leb (nat_abs (code f t)) (2 ^ 15)

join : (P L K qp qn tp tn m Qp Qn Tp Tn A n : ℕ) → tp + tn ≡ m
    → Within (2 * P * (qp * L + tn * K)) (2 * P * (qn * L + tp * K)) (P * L + 2 * ((tp + tn) * K) + L)
    → Within (2 * P * (Qp * L + Tn * K)) (2 * P * (Qn * L + Tp * K)) (n * (P * L + L) + 2 * (A * K))
    → Within (2 * P * ((qp + Qp) * L + (tn + Tn) * K)) (2 * P * ((qn + Qn) * L + (tp + Tp) * K)) (suc n * (P * L + L) + 2 * ((m + A) * K))
join P L K qp qn tp tn m Qp Qn Tp Tn A n e h g =
    let x : (tp + tn) * K ≡ m * K = ap (λ (z : ℕ). z * K) e in
    omega arith

pub codes_error : (f : Format) (ts : List Float) → Each (fits f) ts → Each (coded f) ts
    → Within (2 * 2 ^ prec f * (sum_of (λ t. pos_part (code f t)) ts * 2 ^ low f + sum_of (less f) ts * 2 ^ 15))
    (2 * 2 ^ prec f * (sum_of (λ t. neg_part (code f t)) ts * 2 ^ low f + sum_of (plus f) ts * 2 ^ 15))
    (length ts * (2 ^ prec f * 2 ^ low f + 2 ^ low f) + 2 * (sum_of (mag f) ts * 2 ^ 15))
unfolding sum_of
codes_error f [] a u = none (2 ^ prec f) (2 ^ low f)
  where
    none : (P L : ℕ) → Within (2 * P * (0 * L + 0)) (2 * P * (0 * L + 0)) (0 * (P * L + L) + 0)
    none P L = omega arith
codes_error f (t ∷ ts) a u =
    join (2 ^ prec f) (2 ^ low f) (2 ^ 15) (pos_part (code f t)) (neg_part (code f t)) (plus f t) (less f t) (mag f t) (sum_of (λ t. pos_part (code f t)) ts) (sum_of (λ t. neg_part (code f t)) ts) (sum_of (plus f) ts) (sum_of (less f) ts) (sum_of (mag f) ts) (length ts)
    (parts_mag f t) (code_error f t a.0 (and_l (finite (moved f t)) (leb (nat_abs (code f t)) (2 ^ 15)) u.0)) (codes_error f ts a.1 u.1)

-- ---- a value with such a code is not above 2
over : (P K L r : ℕ) → 5 ≤ P → 1 ≤ K → 2 * P * ((2 * L + 1 + r) * K) ≤ 2 * P * (K * L) + P * L + 2 * ((2 * L + 1 + r) * K) + L → ⊥
over P K L r p k h =
    let v : 1 * L ≤ K * L = mul-le-mul_right L k in
    let a : P * (1 * L) ≤ P * (K * L) = mul-le-mul_left P v in
    let b : 5 * (K * L) ≤ P * (K * L) = mul-le-mul_right (K * L) p in
    let c : 5 * K ≤ P * K = mul-le-mul_right K p in
    let d : 5 * (r * K) ≤ P * (r * K) = mul-le-mul_right (r * K) p in
    omega arith

bounded : (P K L g : ℕ) → 5 ≤ P → 1 ≤ K → 2 * P * (g * K) ≤ 2 * P * (K * L) + P * L + 2 * (g * K) + L → g ≤ 2 * L
bounded P K L g p k h = go (leb g (2 * L)) (leb→le g (2 * L)) (nleb→lt g (2 * L))
  where
    rest : (x y : ℕ) → x < y → y ≡ x + 1 + (y - suc x)
    rest x y h = omega arith

    go : (v : Bool) → (T v → g ≤ 2 * L) → (T (not v) → 2 * L < g) → g ≤ 2 * L
    go true x y = x tt
    go false x y = absurd (over P K L (g - suc (2 * L)) p k (subst (λ (z : ℕ). 2 * P * (z * K) ≤ 2 * P * (K * L) + P * L + 2 * (z * K) + L) (rest (2 * L) g (y tt)) h))

pos_le : (z : ℤ) (k : ℕ) → nat_abs z ≤ k → (pos_part z ≤ k) × (neg_part z ≤ k)
pos_le (pos n) k h = omega arith
pos_le (negsuc n) k h = omega arith

reduce : (s : Bool) (P K L g qp qn : ℕ) → qp ≤ K → qn ≤ K
    → Within (2 * P * (qp * L + part (not s) g * K)) (2 * P * (qn * L + part s g * K)) (P * L + 2 * ((part s g + part (not s) g) * K) + L)
    → 2 * P * (g * K) ≤ 2 * P * (K * L) + P * L + 2 * (g * K) + L
reduce false P K L g qp qn a b h = let x : P * (qp * L) ≤ P * (K * L) = mul-le-mul_left P (mul-le-mul_right L a) in omega arith
reduce true P K L g qp qn a b h = let x : P * (qn * L) ≤ P * (K * L) = mul-le-mul_left P (mul-le-mul_right L b) in omega arith

five : (f : Format) → 5 ≤ 2 ^ prec f
five binary32 = lit≤ tt
five binary64 = lit≤ tt

pub code_size : (f : Format) (t : Float) → T (fits f t) → T (coded f t) → mag f t ≤ 2 * 2 ^ low f
code_size f t a u =
    let x : Bool = finite (moved f t) in
    let y : Bool = leb (nat_abs (code f t)) (2 ^ 15) in
    let q = pos_le (code f t) (2 ^ 15) (leb→le (nat_abs (code f t)) (2 ^ 15) (and_r x y u)) in
    bounded (2 ^ prec f) (2 ^ 15) (2 ^ low f) (mag f t) (five f) (pow_pos 15)
    (reduce (is_neg t) (2 ^ prec f) (2 ^ 15) (2 ^ low f) (mag f t) (pos_part (code f t)) (neg_part (code f t)) q.0 q.1 (code_error f t a (and_l x y u)))

pub codes_size : (f : Format) (ts : List Float) → Each (fits f) ts → Each (coded f) ts → sum_of (mag f) ts ≤ 2 * length ts * 2 ^ low f
unfolding sum_of
codes_size f [] a u = zero-le
codes_size f (t ∷ ts) a u = go (mag f t) (sum_of (mag f) ts) (length ts) (2 ^ low f) (code_size f t a.0 u.0) (codes_size f ts a.1 u.1)
  where
    go : (m s n L : ℕ) → m ≤ 2 * L → s ≤ 2 * n * L → m + s ≤ 2 * suc n * L
    go m s n L h k = omega arith
