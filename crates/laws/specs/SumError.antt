-- What the sum of a list of values by rising index errs by. Assumes nothing.
use Rattle.std.specs.Prelude.{◌≡◌, refl, List, [], ◌∷◌, ℕ, suc, ◌+◌, ◌*◌, ◌^◌, ◌≤◌, ◌<◌, Bool, true, false, not, T, length, Float}
use Rattle.std.proofs.Common.{subst, le_trans, le_of_eq, add_assoc, mul-le-mul_right, arith, pow_pos}
use Rattle.std.proofs.Math.Nat.{le_of_mul-le-mul_left}
use Rattle.std.specs.Float.{Format}
use Rattle.std.specs.Float.Ieee.{prec, add, fits}
use Rattle.std.specs.Float.Ieee.Fits.{add-fits}
use Rattle.std.specs.Float.Ieee.Scale.{finite}
use Rattle.laws.specs.Rounding.{Within}
use Rattle.laws.specs.Units.{mag, is_neg, part, plus, less, parts_mag, nought}
use Rattle.laws.specs.Operations.{dist, Close, add_finite, add_error, zero_add_exact}

-- ---- definitions
-- acc, and then the values of the list, each added to what is there
unfoldable pub total : Format → Float → List Float → Float
total f acc [] = acc
total f acc (x ∷ xs) = total f (add f acc x) xs

-- the exact sum of g over a list
unfoldable pub sum_of : (Float → ℕ) → List Float → ℕ
sum_of g [] = 0
sum_of g (x ∷ xs) = g x + sum_of g xs

abbrev pub Each : (Float → Bool) → List Float → Type 0
Each b [] = Unit {0}
Each b (x ∷ xs) = T (b x) × Each b xs

-- ---- the running sum
pub total_finite : (f : Format) (acc : Float) (xs : List Float) → T (finite (total f acc xs)) → T (finite acc)
unfolding total
total_finite f acc [] t = t
total_finite f acc (x ∷ xs) t = (add_finite f acc x (total_finite f (add f acc x) xs t)).0

pub total_fits : (f : Format) (acc : Float) (xs : List Float) → T (fits f acc) → T (fits f (total f acc xs))
unfolding total
total_fits f acc [] t = t
total_fits f acc (x ∷ xs) t = total_fits f (add f acc x) xs (add-fits f acc x)

-- one part of a value is 0
one_zero : (s : Bool) (n : ℕ) → part s n + part (not s) n ≡ n
one_zero false n = omega arith
one_zero true n = omega arith

-- P * |z - (p - l)| ≤ E, so P * |z| ≤ P * (p + l) + E
size-le : (s : Bool) (n P p l E : ℕ) → Within (P * (part s n + l)) (P * (part (not s) n + p)) E → P * n ≤ P * (p + l) + E
size-le false n P p l E h = omega arith
size-le true n P p l E h = omega arith

-- after k sums the error is at most 2 * k / P of the sum of the magnitudes, so what is there is at most twice that
twice_le : (P k n r : ℕ) → 0 < P → 2 * k ≤ P → P * n ≤ P * r + 2 * k * r → n ≤ 2 * r
twice_le P k n r Q K h =
    let a : 2 * k * r ≤ P * r = mul-le-mul_right r K in
    le_of_mul-le-mul_left {k = P} (le_trans h (omega arith)) Q

pub dist_le : (x y : ℕ) → dist x y ≤ x + y
dist_le x y = omega arith

step : (P k a a' b b' z z' p l D : ℕ)
    → Within (P * (a + l)) (P * (a' + p)) (2 * k * (p + l))
    → Within (P * (z + (a' + b'))) (P * (z' + (a + b))) D
    → D ≤ (a + b) + (a' + b')
    → a + a' ≤ 2 * (p + l)
    → Within (P * (z + (l + b'))) (P * (z' + (p + b))) (2 * suc k * ((p + b) + (l + b')))
step P k a a' b b' z z' p l D h g d s = omega arith

move : (P z z' p l k p' l' k' : ℕ) → p ≡ p' → l ≡ l' → k ≡ k' → Within (P * (z + l)) (P * (z' + p)) (2 * k * (p + l)) → Within (P * (z + l')) (P * (z' + p')) (2 * k' * (p' + l'))
move P z z' p l k p' l' k' e e' e'' h =
    subst (λ (x : ℕ). Within (P * (z + l')) (P * (z' + p')) (2 * x * (p' + l'))) e''
    (subst (λ (x : ℕ). Within (P * (z + x)) (P * (z' + p')) (2 * k * (p' + x))) e' (subst (λ (x : ℕ). Within (P * (z + l)) (P * (z' + x)) (2 * k * (x + l))) e h))

pub total_from : (f : Format) (acc : Float) (xs : List Float) (k p l : ℕ) → T (fits f acc) → Each (fits f) xs → T (finite (total f acc xs)) → 2 * (k + length xs) ≤ 2 ^ prec f
    → Close f acc p l (2 * k * (p + l))
    → Close f (total f acc xs) (p + sum_of (plus f) xs) (l + sum_of (less f) xs) (2 * (k + length xs) * ((p + sum_of (plus f) xs) + (l + sum_of (less f) xs)))
unfolding total sum_of
total_from f acc [] k p l a b t K h = move (2 ^ prec f) (plus f acc) (less f acc) p l k (p + 0) (l + 0) (k + 0) (omega arith) (omega arith) (omega arith) h
total_from f acc (x ∷ xs) k p l a b t K h =
    let P = 2 ^ prec f in
    let t' : T (finite (add f acc x)) = total_finite f (add f acc x) xs t in
    let n : mag f acc ≤ 2 * (p + l) = twice_le P k (mag f acc) (p + l) (pow_pos (prec f)) (omega arith) (size-le (is_neg acc) (mag f acc) P p l (2 * k * (p + l)) h) in
    let n' : plus f acc + less f acc ≤ 2 * (p + l) = le_trans (le_of_eq (parts_mag f acc)) n in
    let g : Close f (add f acc x) (p + plus f x) (l + less f x) (2 * suc k * ((p + plus f x) + (l + less f x))) =
    step P k (plus f acc) (less f acc) (plus f x) (less f x) (plus f (add f acc x)) (less f (add f acc x)) p l (dist (plus f acc + plus f x) (less f acc + less f x)) h (add_error f acc x a b.0 t')
    (dist_le (plus f acc + plus f x) (less f acc + less f x)) n' in
    let r = total_from f (add f acc x) xs (suc k) (p + plus f x) (l + less f x) (add-fits f acc x) b.1 t (omega arith) g in
    let s = total f (add f acc x) xs in
    let u = sum_of (plus f) xs in
    let v = sum_of (less f) xs in
    move P (plus f s) (less f s) (p + plus f x + u) (l + less f x + v) (suc k + length xs) (p + (plus f x + u)) (l + (less f x + v)) (k + suc (length xs)) (add_assoc p (plus f x) u) (add_assoc l (less f x) v) (omega arith) r

-- The sum from +0 of a list of n + 1 values is off by no more than n / 2 ^ (prec - 1) of the sum of their magnitudes.
pub total_error : (f : Format) (x : Float) (xs : List Float) → Each (fits f) (x ∷ xs) → T (finite (total f nought (x ∷ xs))) → 2 * length xs ≤ 2 ^ prec f
    → Close f (total f nought (x ∷ xs)) (sum_of (plus f) (x ∷ xs)) (sum_of (less f) (x ∷ xs)) (2 * length xs * (sum_of (plus f) (x ∷ xs) + sum_of (less f) (x ∷ xs)))
unfolding total sum_of
total_error f x xs b t K =
    let r = total_from f (add f nought x) xs 0 (plus f x) (less f x) (add-fits f nought x) b.1 t (omega arith)
    (go (2 ^ prec f) (plus f (add f nought x)) (less f (add f nought x)) (plus f x) (less f x) (zero_add_exact f x b.0 (total_finite f (add f nought x) xs t))) in
    let s = total f (add f nought x) xs in
    let p = plus f x + sum_of (plus f) xs in
    let l = less f x + sum_of (less f) xs in
    move (2 ^ prec f) (plus f s) (less f s) p l (0 + length xs) p l (length xs) refl refl (omega arith) r
  where
    go : (P z z' p l : ℕ) → Within (P * (z + l)) (P * (z' + p)) 0 → Within (P * (z + l)) (P * (z' + p)) (2 * 0 * (p + l))
    go P z z' p l h = omega arith
