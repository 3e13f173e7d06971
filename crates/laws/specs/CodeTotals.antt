-- The codes of quotients by their sum add up to 32768, nearly: off by n · (1/2 + (1 + A) / 2^37) at most at an f64, A
-- the sum of the quotients' sizes. It is no corollary of the quotients' own total, since 32768 t + 0.5 is itself
-- rounded. Assumes nothing.
use Rattle.std.specs.Prelude.{◌≡◌, refl, List, [], ◌∷◌, ℕ, suc, ◌+◌, ◌-◌, ◌*◌, ◌^◌, ◌≤◌, ◌<◌, T, length, ℤ, pos, negsuc, nat_abs, ◌-ℤ◌, Float}
use Rattle.std.proofs.Common.{sym, le_trans, le_of_eq, zero-add, add-zero, mul_assoc, mul-le-mul_left, mul-le-mul_right, arith, lit≤, pow_pos, pow_mono}
use Rattle.std.proofs.Math.Nat.{le_of_mul-le-mul_left}
use Rattle.std.specs.Float.{Format, binary32, binary64}
use Rattle.std.specs.Float.Ieee.{prec, low, fits}
use Rattle.std.specs.Float.Ieee.Fits.{two, two-le_pos}
use Rattle.std.specs.Float.Ieee.Scale.{finite}
use Rattle.laws.specs.Rounding.{Within, twice, times, cancel}
use Rattle.laws.specs.Units.{mag, plus, less, nought}
use Rattle.laws.specs.Floor.{pos_part, neg_part}
use Rattle.laws.specs.SumError.{total, sum_of, Each}
use Rattle.laws.specs.Quotients.{quotients, quotients_fit, quotients_length, excess, facts}
use Rattle.laws.specs.Totals.{Is, is_add, is_abs, units, sum_z, abs_sum}
use Rattle.laws.specs.Codes.{code, coded, codes_error, codes_size}

-- ---- the theorem's arithmetic; X, Y and b are as for `normalized`
key : (P H L X Y b n : ℕ) → H * 2 ≤ L → 8 * suc n ≤ P → P * X ≤ P * Y + (X + suc n * (H * b)) → Y ≤ 2 * suc n * (L * b)
    → suc n * (L * b) + 2 * Y + 2 * ((2 * n + 1) * X + suc n * (H * b)) ≤ 4 * suc n * (L * b + Y)
key P H L X Y b n l k h y = go (X - Y) (omega arith) (excess P (8 * suc n) X Y (suc n * (H * b)) k h)
  where
    go : (D : ℕ) → X ≤ Y + D → 8 * suc n * D ≤ X + suc n * (H * b) → suc n * (L * b) + 2 * Y + 2 * ((2 * n + 1) * X + suc n * (H * b)) ≤ 4 * suc n * (L * b + Y)
    go D e d = omega (arith, mul-le-mul_right b l, mul-le-mul_left n (mul-le-mul_right b l), mul-le-mul_left n e)

combine : (P L K b Pt Nt Qp Qn E F : ℕ) → Within (2 * P * (Qp * L + Nt * K)) (2 * P * (Qn * L + Pt * K)) E → Within (P * (Pt * b)) (P * ((Nt + L) * b)) F
    → Within (b * (2 * P * L * Qp)) (b * (2 * P * L * (Qn + K))) (b * E + 2 * K * F)
combine P L K b Pt Nt Qp Qn E F h g =
    let c = times b (2 * P * (Qp * L + Nt * K)) (2 * P * (Qn * L + Pt * K)) E h in
    let m = times (2 * K) (P * (Pt * b)) (P * ((Nt + L) * b)) F g in
    omega (arith, c, m)

enough : (P L K b n A F : ℕ) → 1 ≤ K → n * (L * b) + 2 * (A * b) + 2 * F ≤ 4 * n * (L * b + A * b) → b * (n * (P * L + L) + 2 * (A * K)) + 2 * K * F ≤ b * (n * (P * L + 4 * K * (L + A)))
enough P L K b n A F k q =
    let q' : K * (n * (L * b) + 2 * (A * b) + 2 * F) ≤ K * (4 * n * (L * b + A * b)) = mul-le-mul_left K q in
    let u : n * (1 * (L * b)) ≤ n * (K * (L * b)) = mul-le-mul_left n (mul-le-mul_right (L * b) k) in
    omega (arith, q', u)

widen : {x y z w : ℕ} → Within x y z → z ≤ w → Within x y w
widen h l = omega arith

last : (H L K b n Pt Nt Qp Qn R A : ℕ) → H * 2 ≤ L → 1 ≤ K → 8 * suc n ≤ H * 2 → 0 < b
    → Within (H * 2 * (Pt * b)) (H * 2 * ((Nt + L) * b)) ((2 * n + 1) * (R * L) + suc n * (H * b))
    → H * 2 * (R * L) ≤ H * 2 * (A * b) + (R * L + suc n * (H * b))
    → Within (2 * (H * 2) * (Qp * L + Nt * K)) (2 * (H * 2) * (Qn * L + Pt * K)) (suc n * (H * 2 * L + L) + 2 * (A * K))
    → A ≤ 2 * suc n * L
    → Within (2 * (H * 2) * L * Qp) (2 * (H * 2) * L * (Qn + K)) (suc n * (H * 2 * L + 4 * K * (L + A)))
last H L K b n Pt Nt Qp Qn R A l k o B near sizes codes small =
    let y : A * b ≤ 2 * suc n * (L * b) = le_trans (mul-le-mul_right b small) (le_of_eq (mul_assoc (2 * suc n) L b)) in
    let F = (2 * n + 1) * (R * L) + suc n * (H * b) in
    let q = key (H * 2) H L (R * L) (A * b) b n l o sizes y in
    let z = suc n * (H * 2 * L + 4 * K * (L + A)) in
    cancel b (2 * (H * 2) * L * Qp) (2 * (H * 2) * L * (Qn + K)) z B
    (widen (combine (H * 2) L K b Pt Nt Qp Qn (suc n * (H * 2 * L + L) + 2 * (A * K)) F codes near) (enough (H * 2) L K b (suc n) A F k q))

-- ---- the theorem
pub is_parts : (z : ℤ) → Is z (pos_part z) (neg_part z)
is_parts (pos n) = sym (zero-add n)
is_parts (negsuc n) = sym (zero-add (suc n))

pub is_sum_of : (g : Float → ℤ) (xs : List Float) → Is (sum_z g xs) (sum_of (λ x. pos_part (g x)) xs) (sum_of (λ x. neg_part (g x)) xs)
unfolding sum_z sum_of
is_sum_of g [] = refl
is_sum_of g (x ∷ xs) = is_add (g x) (sum_z g xs) (pos_part (g x)) (neg_part (g x)) (sum_of (λ x. pos_part (g x)) xs) (sum_of (λ x. neg_part (g x)) xs) (is_parts (g x)) (is_sum_of g xs)

below : (f : Format) → prec f ≤ low f
below binary32 = lit≤ tt
below binary64 = lit≤ tt

-- |the sum of the codes, less 2 ^ 15| ≤ n * (1 / 2 + (1 + A) * 2 ^ 16 / 2 ^ prec), multiplied by 2 ^ (prec + 1) and by
-- the units of 1
pub codes_whole : (f : Format) (x : Float) (xs : List Float) → Each (fits f) (x ∷ xs) → T (finite (total f nought (x ∷ xs))) → Each finite (quotients f (x ∷ xs) (total f nought (x ∷ xs))) → 4 * length (x ∷ xs) ≤ 2 ^ (prec f - 1)
    → Each (coded f) (quotients f (x ∷ xs) (total f nought (x ∷ xs)))
    → 2 * (2 ^ (prec f - 1) * 2) * 2 ^ low f * nat_abs (sum_z (code f) (quotients f (x ∷ xs) (total f nought (x ∷ xs))) -ℤ pos (2 ^ 15))
    ≤ length (x ∷ xs) * (2 ^ (prec f - 1) * 2 * 2 ^ low f + 4 * 2 ^ 15 * (2 ^ low f + sum_of (mag f) (quotients f (x ∷ xs) (total f nought (x ∷ xs)))))
codes_whole f x xs a t u k v =
    let rs = x ∷ xs in
    let S = total f nought rs in
    let ts = quotients f rs S in
    let H = 2 ^ (prec f - 1) in
    let L = 2 ^ low f in
    let tw : 2 ^ prec f ≡ H * 2 = twice (prec f) (two-le_pos (prec f) (two f)) in
    let c = facts f x xs a t u (fourth (length rs) H k) in
    let A = sum_of (mag f) ts in
    let p = sum_of (λ t. pos_part (code f t)) ts in
    let n = sum_of (λ t. neg_part (code f t)) ts in
    let e = quotients_length f rs S in
    let codes = rw (tw, e) at (codes_error f ts (quotients_fit f rs S) v) in
    let small = rw e at (codes_size f ts (quotients_fit f rs S) v) in
    let w = last H L (2 ^ 15) (mag f S) (length xs) (sum_of (plus f) ts) (sum_of (less f) ts) p n (sum_of (mag f) rs) A (rw tw at (pow_mono (below f))) (pow_pos 15) (eighth (length rs) H k) c.above c.near c.sizes codes small in
    let z = sum_z (code f) ts in
    is_abs (z -ℤ pos (2 ^ 15)) (2 * (H * 2) * L) (p + 0) (n + 2 ^ 15) (length rs * (H * 2 * L + 4 * 2 ^ 15 * (L + A)))
    (is_add z (negsuc 32767) p n 0 (2 ^ 15) (is_sum_of (code f) ts) refl)
    (rw add-zero w)
  where
    fourth : (n h : ℕ) → 4 * n ≤ h → n ≤ h
    fourth n h k = omega arith

    eighth : (n h : ℕ) → 4 * n ≤ h → 8 * n ≤ h * 2
    eighth n h k = omega arith

-- at an f64, n being at most 2^24: |the sum of the codes, less 32768| ≤ n * (1 / 2 + (1 + A) / 2 ^ 37), multiplied by 2
-- ^ 37 and by the 2 ^ 1074 units of 1
lessen : (L z n A : ℕ) → 2 * (2 ^ 52 * 2) * L * z ≤ n * (2 ^ 52 * 2 * L + 4 * 2 ^ 15 * (L + A)) → 2 ^ 37 * L * z ≤ n * (2 ^ 36 * L + L + A)
lessen L z n A h = le_of_mul-le-mul_left {k = 131072} (omega arith) (lit≤ tt)

pub codes_f64 : (x : Float) (xs : List Float) → Each (fits binary64) (x ∷ xs) → T (finite (total binary64 nought (x ∷ xs))) → Each finite (quotients binary64 (x ∷ xs) (total binary64 nought (x ∷ xs))) → length (x ∷ xs) ≤ 2 ^ 24
    → Each (coded binary64) (quotients binary64 (x ∷ xs) (total binary64 nought (x ∷ xs)))
    → 2 ^ 37 * 2 ^ 1074 * nat_abs (sum_z (code binary64) (quotients binary64 (x ∷ xs) (total binary64 nought (x ∷ xs))) -ℤ pos 32768)
    ≤ length (x ∷ xs) * (2 ^ 36 * 2 ^ 1074 + 2 ^ 1074 + sum_of (λ t. nat_abs (units binary64 t)) (quotients binary64 (x ∷ xs) (total binary64 nought (x ∷ xs))))
codes_f64 x xs a t u k v =
    let ts = quotients binary64 (x ∷ xs) (total binary64 nought (x ∷ xs)) in
    rw (abs_sum binary64 ts)
    (lessen (2 ^ 1074) (nat_abs (sum_z (code binary64) ts -ℤ pos 32768)) (length (x ∷ xs)) (sum_of (mag binary64) ts) (codes_whole binary64 x xs a t u (le_trans (mul-le-mul_left 4 k) (lit≤ tt)) v))
