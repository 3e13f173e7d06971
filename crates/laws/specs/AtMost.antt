-- How large a rounded result can be: where the exact result is no larger than n / d, and n / d is itself a value of the
-- format, neither is the rounded one. Assumes nothing.
use Rattle.std.specs.Prelude.{◌≡◌, refl, ℕ, zero, suc, ◌+◌, ◌-◌, ◌*◌, ◌^◌, ◌≤◌, ◌<◌, Bool, true, false, ◌&&◌, ◌||◌, cond, T, ltb, eqb, pos, neg_ℤ, nat_abs, Float}
use Rattle.std.proofs.Common.{sym, ap, subst, le_trans, le_of_eq, le_of_lt, le_of_suc-le-suc, div-lt_iff_lt-mul, div-mul-le_self, mul-one, mul-pos, mul-le-mul, mul-le-mul_right, le_of_mul-le-mul_right, arith, true≢false, ltb→lt, eqb→eq}
use Rattle.std.specs.Bool.{beq}
use Rattle.std.specs.Float.{nan, inf, fin, Format}
use Rattle.std.specs.Float.Ieee.{prec, emax, low, up, down, odd, units, round, sum, add, mul, le, unlike}
use Rattle.std.specs.Float.Ieee.Exact.{HasValue, odd_sign}
use Rattle.std.specs.Float.Ieee.Fits.{down_pos, round_is}
use Rattle.std.specs.Float.Ieee.Scale.{finite}
use Rattle.std.specs.Float.Ieee.Order.{drop, kept, round_mono}
use Rattle.laws.specs.Floor.{floor_z, upward}

-- x is finite, and n / d at most in size
abbrev pub AtMost : Float → ℕ → ℕ → Type 0
AtMost nan n d = ⊥
AtMost (inf s) n d = ⊥
AtMost (fin s m e) n d = m * up e * d ≤ n * down e

pub at_most_finite : (x : Float) (n d : ℕ) → AtMost x n d → T (finite x)
at_most_finite nan n d h = h
at_most_finite (inf s) n d h = h
at_most_finite (fin s m e) n d h = tt

-- ---- from the order of two values
cross : (x y e e' n d : ℕ) → 0 < e' → x * e' ≤ y * e → y * d ≡ n * e' → x * d ≤ n * e
cross x y e e' n d E h q =
    let a : x * e' * d ≤ y * e * d = mul-le-mul_right d h in
    let b : y * d * e ≡ n * e' * e = ap (λ (z : ℕ). z * e) q in
    le_of_mul-le-mul_right {k = e'} (omega arith) E

-- a test of two values with their signs clear
pub of_test : (a b : ℕ) (v : Bool) → T (ltb a b || (eqb a b && v)) → a ≤ b
of_test a b v t = go (ltb a b) (eqb a b) (ltb→lt a b) (eqb→eq a b) t
  where
    go : (p q : Bool) → (T p → a < b) → (T q → a ≡ b) → T (p || (q && v)) → a ≤ b
    go true q h k t = le_of_lt (h tt)
    go false true h k t = le_of_eq (k tt)
    go false false h k t = absurd t

-- what is no larger than y, which is n / d
pub of_le : (x y : Float) (a c n d : ℕ) → HasValue x false a c → HasValue y false n d → T (le x y) → AtMost x n d
unfolding le
of_le nan y a c n d p q t = p
of_le (inf s) y a c n d p q t = p
of_le (fin true m e) y a c n d p q t = absurd (true≢false p.0)
of_le (fin false m e) nan a c n d p q t = absurd q
of_le (fin false m e) (inf s) a c n d p q t = absurd q
of_le (fin false m e) (fin true m' e') a c n d p q t = absurd (true≢false q.0)
of_le (fin false m e) (fin false m' e') a c n d p q t =
    cross (m * up e) (m' * up e') (down e) (down e') n d (down_pos e') (of_test (m * up e * down e') (m' * up e' * down e) (true || eqb (m * up e * down e') 0) t) q.1

no_infinity : (y : Float) (n d : ℕ) → HasValue y false n d → T (le (inf false) y) → ⊥
unfolding le
no_infinity nan n d q t = q
no_infinity (inf s) n d q t = q
no_infinity (fin s m e) n d q t = t

-- the size does not turn on the sign
odd_any : (D : ℕ) (s : Bool) (q k l n d : ℕ) → AtMost (odd D false q k l) n d → AtMost (odd D s q k l) n d
unfolding odd
odd_any D s zero k l n d h = h
odd_any D s (suc q) k l n d h = h

units_at_most : (f : Format) (s : Bool) (q k n d : ℕ) (y : Float) → HasValue y false n d → T (le (units f false q k) y) → AtMost (units f s q k) n d
unfolding units
units_at_most f s q k n d y v = go (ltb (q * 2 ^ k) (2 ^ (low f + suc (emax f))))
  where
    go : (b : Bool) → T (le (cond b (odd (suc (prec f)) false q k (low f)) (inf false)) y) → AtMost (cond b (odd (suc (prec f)) s q k (low f)) (inf s)) n d
    go true t = odd_any (suc (prec f)) s q k (low f) n d (of_le (odd (suc (prec f)) false q k (low f)) y (q * 2 ^ k) (2 ^ low f) n d (odd_sign (suc (prec f)) false q k (low f)) v t)
    go false t = absurd (no_infinity y n d v t)

-- ---- the law, for a fraction of either sign
pub round_at_most : (f : Format) (s : Bool) (a b n d : ℕ) → 0 < b → 0 < d → HasValue (round f false n d) false n d → a * d ≤ n * b → AtMost (round f s a b) n d
round_at_most f s a b n d B D v h =
    let q = kept (prec f) (a * 2 ^ low f) b in
    let k = drop (prec f) (a * 2 ^ low f) b in
    subst (λ (z : Float). AtMost z n d) (sym (round_is f s a b))
    (units_at_most f s q k n d (round f false n d) v (subst (λ (z : Float). T (le z (round f false n d))) (round_is f false a b) (round_mono f a b n d B D h)))

-- ---- a product
times : (a b n d n' d' e e' : ℕ) → a * d ≤ n * e → b * d' ≤ n' * e' → a * b * (d * d') ≤ n * n' * (e * e')
times a b n d n' d' e e' h k = let g : a * d * (b * d') ≤ n * e * (n' * e') = mul-le-mul h k in omega arith

through : (a n d N D b : ℕ) → 0 < d → a * d ≤ n * b → n * D ≤ N * d → a * D ≤ N * b
through a n d N D b P h k =
    let x : a * d * D ≤ n * b * D = mul-le-mul_right D h in
    let y : n * D * b ≤ N * d * b = mul-le-mul_right b k in
    le_of_mul-le-mul_right {k = d} (omega arith) P

pub mul_at_most : (f : Format) (x y : Float) (n d n' d' N D : ℕ) → 0 < d * d' → 0 < D → HasValue (round f false N D) false N D → n * n' * D ≤ N * (d * d') → AtMost x n d → AtMost y n' d' → AtMost (mul f x y) N D
unfolding mul
mul_at_most f nan y n d n' d' N D P Q v k a b = absurd a
mul_at_most f (inf s) y n d n' d' N D P Q v k a b = absurd a
mul_at_most f (fin s m e) nan n d n' d' N D P Q v k a b = absurd b
mul_at_most f (fin s m e) (inf t) n d n' d' N D P Q v k a b = absurd b
mul_at_most f (fin s m e) (fin t m' e') n d n' d' N D P Q v k a b =
    round_at_most f (unlike s t) (m * up e * (m' * up e')) (down e * down e') N D (mul-pos (down_pos e) (down_pos e')) Q v
    (through (m * up e * (m' * up e')) (n * n') (d * d') N D (down e * down e') P (times (m * up e) (m' * up e') n d n' d' (down e) (down e') a b) k)

-- ---- a sum
-- a / c and b / c are n / d at most together
less_sum : (a b n c d : ℕ) → (a + b) * d ≤ n * c → (a - b) * d ≤ n * c
less_sum a b n c d h = le_trans (mul-le-mul_right d (go a b)) h
  where
    go : (a b : ℕ) → a - b ≤ a + b
    go a b = omega arith

swapped : (a b n c d : ℕ) → (a + b) * d ≤ n * c → (b + a) * d ≤ n * c
swapped a b n c d h = omega arith

sum_at_most : (f : Format) (s : Bool) (a : ℕ) (t : Bool) (b c n d : ℕ) → 0 < c → 0 < d → HasValue (round f false n d) false n d → (a + b) * d ≤ n * c → AtMost (sum f s a t b c) n d
unfolding sum
sum_at_most f s a t b c n d C D v h = go (beq s t) (ltb a b)
  where
    go : (x y : Bool) → AtMost (cond x (round f s (a + b) c) (cond y (round f t (b - a) c) (round f (s && ltb b a) (a - b) c))) n d
    go true y = round_at_most f s (a + b) c n d C D v h
    go false true = round_at_most f t (b - a) c n d C D v (less_sum b a n c d (swapped a b n c d h))
    go false false = round_at_most f (s && ltb b a) (a - b) c n d C D v (less_sum a b n c d h)

gather : (a b e e' n d n' d' : ℕ) → 0 < d → 0 < d' → a * d ≤ n * e → b * d' ≤ n' * e' → (a * e' + b * e) * (d * d') ≤ (n * d' + n' * d) * (e * e')
gather a b e e' n d n' d' P P' h k =
    let x : a * d * (e' * d') ≤ n * e * (e' * d') = mul-le-mul_right (e' * d') h in
    let y : b * d' * (e * d) ≤ n' * e' * (e * d) = mul-le-mul_right (e * d) k in
    omega arith

pub add_at_most : (f : Format) (x y : Float) (n d n' d' N D : ℕ) → 0 < d → 0 < d' → 0 < D → HasValue (round f false N D) false N D → (n * d' + n' * d) * D ≤ N * (d * d') → AtMost x n d → AtMost y n' d' → AtMost (add f x y) N D
unfolding add
add_at_most f nan y n d n' d' N D P P' Q v k a b = absurd a
add_at_most f (inf s) y n d n' d' N D P P' Q v k a b = absurd a
add_at_most f (fin s m e) nan n d n' d' N D P P' Q v k a b = absurd b
add_at_most f (fin s m e) (inf t) n d n' d' N D P P' Q v k a b = absurd b
add_at_most f (fin s m e) (fin t m' e') n d n' d' N D P P' Q v k a b =
    sum_at_most f s (m * up e * down e') t (m' * up e' * down e) (down e * down e') N D (mul-pos (down_pos e) (down_pos e')) Q v
    (through (m * up e * down e' + m' * up e' * down e) (n * d' + n' * d) (d * d') N D (down e * down e') (mul-pos P P') (gather (m * up e) (m' * up e') (down e) (down e') n d n' d' P P' a b) k)

-- ---- the floor
abs_neg : (n : ℕ) → nat_abs (neg_ℤ (pos n)) ≡ n
abs_neg zero = refl
abs_neg (suc n) = refl

floor_upward : (a n d : ℕ) → 0 < d → a * 1 ≤ n * d → upward a d ≤ n
floor_upward a n d D h = le_of_suc-le-suc ((div-lt_iff_lt-mul D).1 (go a d D h))
  where
    go : (a d : ℕ) → 0 < d → a * 1 ≤ n * d → a + (d - 1) < suc n * d
    go a d D h = omega arith

-- what is n at most in size has a floor of n at most in size
pub floor_at_most : (x : Float) (n : ℕ) → AtMost x n 1 → nat_abs (floor_z x) ≤ n
unfolding floor_z
floor_at_most nan n h = absurd h
floor_at_most (inf s) n h = absurd h
floor_at_most (fin false m e) n h = le_of_mul-le-mul_right (le_trans (div-mul-le_self (m * up e) (down e)) (le_trans (le_of_eq (sym (mul-one (m * up e)))) h)) (down_pos e)
floor_at_most (fin true m e) n h = rw (abs_neg (upward (m * up e) (down e))) (floor_upward (m * up e) n (down e) (down_pos e) h)
