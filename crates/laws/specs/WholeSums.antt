-- The sum of two whole numbers is exact where it is 2 ^ prec at most in size. Assumes nothing.
use Rattle.std.specs.Prelude.{◌≡◌, refl, Bool, true, false, not, ◌&&◌, cond, ℕ, ◌+◌, ◌-◌, ◌*◌, ◌^◌, ◌≤◌, ◌<◌, T, ltb, pos, Float}
use Rattle.std.proofs.Common.{sym, ap, ◌∙◌, subst, le_trans, le_of_eq, lt_of_le_of_lt, lt_of_lt_of_le, lt_of_mul-lt-mul_right, le_of_mul-le-mul_right, mul-one, mul-pos, mul_comm, arith, ltb→lt, nltb→le, pow_pos}
use Rattle.std.proofs.Math.Nat.{mul-sub}
use Rattle.std.specs.Float.{nan, inf, fin, Format}
use Rattle.std.specs.Float.Ieee.{prec, low, up, down, round, sum, add, of_int}
use Rattle.std.specs.Float.Ieee.Back.{round_whole, whole_unique}
use Rattle.std.specs.Float.Ieee.Exact.{HasValue}
use Rattle.std.specs.Float.Ieee.Fits.{down_pos, round-fits, add-fits}
use Rattle.std.specs.Float.Ieee.Scale.{round_same}
use Rattle.laws.specs.Operations.{dist}
use Rattle.laws.specs.Units.{part, plus, less}
use Rattle.laws.specs.WholeUnits.{parts_of_whole}

-- z is the sum of the whole numbers ±a and ±b: its sign and its size, and that a zero is -0 only where both are
-- negative
pub record IsSum (f : Format) (z : Float) (s : Bool) (a : ℕ) (t : Bool) (b : ℕ) : Type 0 where
  pub sign : Bool
  pub n : ℕ
  pub small : n ≤ 2 ^ prec f
  pub value : HasValue z sign n 1
  pub sums : part sign n + (part (not s) a + part (not t) b) ≡ part (not sign) n + (part s a + part t b)
  pub zero_sign : n ≡ 0 → sign ≡ (s && t)

-- a fraction c-ths that is a whole number
rounded : (f : Format) (s : Bool) (n c k : ℕ) → 0 < c → k ≡ n * c → n ≤ 2 ^ prec f → HasValue (round f s k c) s n 1
rounded f s n c k C e h = subst (λ (z : Float). HasValue z s n 1) (sym (round_same f s k c n 1 C (pow_pos 0) (mul-one k ∙ e))) (round_whole f s n h)

-- k is a * c and l is b * c
less_of : (k a l b c : ℕ) → k ≡ a * c → l ≡ b * c → k < l → a < b
less_of k a l b c e g h = lt_of_mul-lt-mul_right c (lt_of_le_of_lt (le_of_eq (sym e)) (lt_of_lt_of_le h (le_of_eq g)))

most_of : (k a l b c : ℕ) → 0 < c → k ≡ a * c → l ≡ b * c → k ≤ l → a ≤ b
most_of k a l b c C e g h = le_of_mul-le-mul_right (le_trans (le_of_eq (sym e)) (le_trans h (le_of_eq g))) C

apart : (k a l b c : ℕ) → k ≡ a * c → l ≡ b * c → k - l ≡ (a - b) * c
apart k a l b c e g = let z : c * (a - b) ≡ c * a - c * b = mul-sub c a b in omega arith

-- ±(a * c) / c + ±(b * c) / c
sum_whole : (f : Format) (s : Bool) (a : ℕ) (t : Bool) (b c k l : ℕ) → 0 < c → k ≡ a * c → l ≡ b * c → dist (part s a + part t b) (part (not s) a + part (not t) b) ≤ 2 ^ prec f → IsSum f (sum f s k t l c) s a t b
unfolding sum
sum_whole f false a false b c k l C e g h = record { sign = false; n = a + b; small = omega arith; value = rounded f false (a + b) c (k + l) C (omega arith) (omega arith); sums = omega arith; zero_sign = λ z. refl }
sum_whole f true a true b c k l C e g h = record { sign = true; n = a + b; small = omega arith; value = rounded f true (a + b) c (k + l) C (omega arith) (omega arith); sums = omega arith; zero_sign = λ z. refl }
sum_whole f true a false b c k l C e g h = go (ltb k l) (ltb l k) (λ v. less_of k a l b c e g (ltb→lt k l v)) (λ v. most_of l b k a c C g e (nltb→le k l v)) (λ v. less_of l b k a c g e (ltb→lt l k v)) (λ v. most_of k a l b c C e g (nltb→le l k v))
  where
    go : (u v : Bool) → (T u → a < b) → (T (not u) → b ≤ a) → (T v → b < a) → (T (not v) → a ≤ b) → IsSum f (cond u (round f false (l - k) c) (round f v (k - l) c)) true a false b
    go true v p p' q q' = let z = p tt in record { sign = false; n = b - a; small = omega arith; value = rounded f false (b - a) c (l - k) C (apart l b k a c g e) (omega arith); sums = omega arith; zero_sign = λ w. refl }
    go false true p p' q q' = let z = q tt in record { sign = true; n = a - b; small = omega arith; value = rounded f true (a - b) c (k - l) C (apart k a l b c e g) (omega arith); sums = omega arith; zero_sign = λ w. absurd (omega arith) }
    go false false p p' q q' = let z = p' tt in let z' = q' tt in record { sign = false; n = a - b; small = omega arith; value = rounded f false (a - b) c (k - l) C (apart k a l b c e g) (omega arith); sums = omega arith; zero_sign = λ w. refl }
sum_whole f false a true b c k l C e g h = go (ltb k l) (λ v. less_of k a l b c e g (ltb→lt k l v)) (λ v. most_of l b k a c C g e (nltb→le k l v))
  where
    go : (u : Bool) → (T u → a < b) → (T (not u) → b ≤ a) → IsSum f (cond u (round f true (l - k) c) (round f false (k - l) c)) false a true b
    go true p p' = let z = p tt in record { sign = true; n = b - a; small = omega arith; value = rounded f true (b - a) c (l - k) C (apart l b k a c g e) (omega arith); sums = omega arith; zero_sign = λ w. absurd (omega arith) }
    go false p p' = let z = p' tt in record { sign = false; n = a - b; small = omega arith; value = rounded f false (a - b) c (k - l) C (apart k a l b c e g) (omega arith); sums = omega arith; zero_sign = λ w. refl }

pub add_whole : (f : Format) (x y : Float) (s : Bool) (a : ℕ) (t : Bool) (b : ℕ) → HasValue x s a 1 → HasValue y t b 1 → dist (part s a + part t b) (part (not s) a + part (not t) b) ≤ 2 ^ prec f → IsSum f (add f x y) s a t b
unfolding add
add_whole f nan y s a t b v w h = absurd v
add_whole f (inf r) y s a t b v w h = absurd v
add_whole f (fin r m e) nan s a t b v w h = absurd w
add_whole f (fin r m e) (inf u) s a t b v w h = absurd w
add_whole f (fin r m e) (fin u n d) s a t b v w h =
    subst (λ (q : Bool). IsSum f (sum f q (m * up e * down d) u (n * up d * down e) (down e * down d)) s a t b) (sym v.0)
    (subst (λ (q : Bool). IsSum f (sum f s (m * up e * down d) q (n * up d * down e) (down e * down d)) s a t b) (sym w.0)
    (sum_whole f s a t b (down e * down d) (m * up e * down d) (n * up d * down e) (mul-pos (down_pos e) (down_pos d)) (over (m * up e) a (down e) (down d) v.1) (over (n * up d) b (down d) (down e) w.1 ∙ ap (λ (z : ℕ). b * z) (mul_comm (down d) (down e))) h))
  where
    over : (k a c d : ℕ) → k * 1 ≡ a * c → k * d ≡ a * (c * d)
    over k a c d e = let z : k * 1 * d ≡ a * c * d = ap (λ (v : ℕ). v * d) e in omega arith

-- a whole number and 1
pub add_one_whole : (f : Format) (k : ℕ) {d : Float} → k < 2 ^ prec f → d ≡ of_int f (pos k) → add f d (of_int f (pos 1)) ≡ of_int f (pos (k + 1))
unfolding of_int
add_one_whole f k l e =
    let one : 1 ≤ 2 ^ prec f = pow_pos (prec f) in
    let x = round f false k 1 in
    let y = round f false 1 1 in
    let sum = add_whole f x y false k false 1 (round_whole f false k (omega arith)) (round_whole f false 1 one) (omega arith) in
    ap (λ (z : Float). add f z y) e
    ∙ whole_unique f (add f x y) (round f false (k + 1) 1) false (k + 1) (add-fits f x y) (round-fits f false (k + 1) 1) (read (add f x y) sum.sign sum.n sum.value sum.sums) (round_whole f false (k + 1) (omega arith))
  where
    read : (z : Float) (sign : Bool) (n : ℕ) → HasValue z sign n 1 → part sign n + (0 + 0) ≡ part (not sign) n + (k + 1) → HasValue z false (k + 1) 1
    read z false n v e = let q : n ≡ k + 1 = omega arith in subst (λ (m : ℕ). HasValue z false m 1) q v
    read z true n v e = absurd (omega arith)

-- the same sum in units
pub sum_units : (f : Format) (x y : Float) (s : Bool) (a : ℕ) (t : Bool) (b : ℕ) → HasValue x s a 1 → HasValue y t b 1 → IsSum f (add f x y) s a t b
    → plus f (add f x y) + (less f x + less f y) ≡ less f (add f x y) + (plus f x + plus f y)
sum_units f x y s a t b v w z =
    let i = parts_of_whole f x s a v in
    let j = parts_of_whole f y t b w in
    let k = parts_of_whole f (add f x y) z.sign z.n z.value in
    rw (i.0, i.1, j.0, j.1, k.0, k.1) (times (part z.sign z.n) (part (not s) a) (part (not t) b) (part (not z.sign) z.n) (part s a) (part t b) (2 ^ low f) z.sums)
  where
    times : (a b c d e g l : ℕ) → a + (b + c) ≡ d + (e + g) → a * l + (b * l + c * l) ≡ d * l + (e * l + g * l)
    times a b c d e g l h = let z : (a + (b + c)) * l ≡ (d + (e + g)) * l = ap (λ (v : ℕ). v * l) h in omega arith
