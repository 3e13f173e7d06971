-- Sums of signed whole numbers, and the total of quotients by their sum over them: it is off 1 by n · (1 + A) / 2 ^
-- (prec - 1) at most, A the sum of the quotients' sizes. Assumes nothing.
use Rattle.std.specs.Prelude.{◌≡◌, refl, List, [], ◌∷◌, ℕ, zero, suc, ◌+◌, ◌-◌, ◌*◌, ◌^◌, ◌≤◌, ◌<◌, Bool, true, false, not, cond, T, ltb, length, ℤ, pos, negsuc, neg_ℤ, nat_abs, ◌+ℤ◌, ◌-ℤ◌, Float}
use Rattle.std.proofs.Common.{sym, ap, ◌∙◌, le_trans, zero-add, add-zero, arith, lit≤, ltb→lt, nltb→le}
use Rattle.std.proofs.Math.IntN.{sub_ℕ}
use Rattle.std.specs.Float.{Format, binary64}
use Rattle.std.specs.Float.Ieee.{prec, low, fits}
use Rattle.std.specs.Float.Ieee.Scale.{finite}
use Rattle.laws.specs.Rounding.{Within}
use Rattle.laws.specs.Units.{mag, is_neg, part, plus, less, nought}
use Rattle.laws.specs.SumError.{total, sum_of, Each}
use Rattle.laws.specs.Quotients.{quotients, normalized}

-- z is p - l
abbrev pub Is : ℤ → ℕ → ℕ → Type 0
Is (pos n) p l = p ≡ l + n
Is (negsuc n) p l = l ≡ p + suc n

is_sub : (a b p l : ℕ) → p + b ≡ l + a → Is (sub_ℕ a b) p l
is_sub a b p l e = go (ltb a b) (ltb→lt a b) (nltb→le a b)
  where
    go : (v : Bool) → (T v → a < b) → (T (not v) → b ≤ a) → Is (cond v (negsuc (b - suc a)) (pos (a - b))) p l
    go true h k = let x : a < b = h tt in omega arith
    go false h k = let x : b ≤ a = k tt in omega arith

pub is_add : (y z : ℤ) (p l p' l' : ℕ) → Is y p l → Is z p' l' → Is (y +ℤ z) (p + p') (l + l')
is_add (pos a) (pos b) p l p' l' h k = omega arith
is_add (pos a) (negsuc b) p l p' l' h k = is_sub a (suc b) (p + p') (l + l') (omega arith)
is_add (negsuc a) (pos b) p l p' l' h k = is_sub b (suc a) (p + p') (l + l') (omega arith)
is_add (negsuc a) (negsuc b) p l p' l' h k = omega arith

pub is_neg_lem : (z : ℤ) (p l : ℕ) → Is z p l → Is (neg_ℤ z) l p
is_neg_lem (pos zero) p l h = omega arith
is_neg_lem (pos (suc n)) p l h = h
is_neg_lem (negsuc n) p l h = h

pub is_abs : (z : ℤ) (h p l c : ℕ) → Is z p l → Within (h * p) (h * l) c → h * nat_abs z ≤ c
is_abs (pos n) h p l c e w = let x : h * p ≡ h * (l + n) = ap (λ (z : ℕ). h * z) e in omega arith
is_abs (negsuc n) h p l c e w = let x : h * l ≡ h * (p + suc n) = ap (λ (z : ℕ). h * z) e in omega arith

-- ---- units
-- a finite value, in units of its format's smallest
unfoldable pub units : Format → Float → ℤ
units f x = cond (is_neg x) (neg_ℤ (pos (mag f x))) (pos (mag f x))

unfoldable pub sum_z : (Float → ℤ) → List Float → ℤ
sum_z g [] = pos 0
sum_z g (x ∷ xs) = g x +ℤ sum_z g xs

pub is_units : (f : Format) (x : Float) → Is (units f x) (plus f x) (less f x)
unfolding units
is_units f x = go (is_neg x) (mag f x)
  where
    go : (s : Bool) (n : ℕ) → Is (cond s (neg_ℤ (pos n)) (pos n)) (part s n) (part (not s) n)
    go false n = omega arith
    go true n = is_neg_lem (pos n) n 0 (omega arith)

pub abs_units : (f : Format) (x : Float) → nat_abs (units f x) ≡ mag f x
unfolding units
abs_units f x = go (is_neg x) (mag f x)
  where
    go : (s : Bool) (n : ℕ) → nat_abs (cond s (neg_ℤ (pos n)) (pos n)) ≡ n
    go false n = refl
    go true zero = refl
    go true (suc n) = refl

pub is_sum : (f : Format) (xs : List Float) → Is (sum_z (units f) xs) (sum_of (plus f) xs) (sum_of (less f) xs)
unfolding sum_z sum_of
is_sum f [] = refl
is_sum f (x ∷ xs) = is_add (units f x) (sum_z (units f) xs) (plus f x) (less f x) (sum_of (plus f) xs) (sum_of (less f) xs) (is_units f x) (is_sum f xs)

pub abs_sum : (f : Format) (xs : List Float) → sum_of (λ x. nat_abs (units f x)) xs ≡ sum_of (mag f) xs
unfolding sum_of
abs_sum f [] = refl
abs_sum f (x ∷ xs) = ap (λ (z : ℕ). z + sum_of (λ x. nat_abs (units f x)) xs) (abs_units f x) ∙ ap (λ (z : ℕ). mag f x + z) (abs_sum f xs)

-- |the sum of the quotients, less 1| * 2 ^ (prec - 1) ≤ n * (1 + A), all in units
pub normalized_whole : (f : Format) (x : Float) (xs : List Float) → Each (fits f) (x ∷ xs) → T (finite (total f nought (x ∷ xs))) → Each finite (quotients f (x ∷ xs) (total f nought (x ∷ xs))) → length (x ∷ xs) ≤ 2 ^ (prec f - 1)
    → 2 ^ (prec f - 1) * nat_abs (sum_z (units f) (quotients f (x ∷ xs) (total f nought (x ∷ xs))) -ℤ pos (2 ^ low f))
    ≤ length (x ∷ xs) * (2 ^ low f + sum_of (λ t. nat_abs (units f t)) (quotients f (x ∷ xs) (total f nought (x ∷ xs))))
normalized_whole f x xs a t u k =
    let ts = quotients f (x ∷ xs) (total f nought (x ∷ xs)) in
    let z = sum_z (units f) ts in
    let i : Is (z -ℤ pos (2 ^ low f)) (sum_of (plus f) ts + 0) (sum_of (less f) ts + 2 ^ low f) = is_add z (neg_ℤ (pos (2 ^ low f))) (sum_of (plus f) ts) (sum_of (less f) ts) 0 (2 ^ low f) (is_sum f ts) (is_neg_lem (pos (2 ^ low f)) (2 ^ low f) 0 (ap (λ (z : ℕ). z) (sym (zero-add (2 ^ low f))))) in
    rw (abs_sum f ts) (is_abs (z -ℤ pos (2 ^ low f)) (2 ^ (prec f - 1)) (sum_of (plus f) ts + 0) (sum_of (less f) ts + 2 ^ low f) (length (x ∷ xs) * (2 ^ low f + sum_of (mag f) ts)) i (rw add-zero (normalized f x xs a t u k)))

-- at an f64
pub normalized_f64 : (x : Float) (xs : List Float) → Each (fits binary64) (x ∷ xs) → T (finite (total binary64 nought (x ∷ xs))) → Each finite (quotients binary64 (x ∷ xs) (total binary64 nought (x ∷ xs))) → length (x ∷ xs) ≤ 2 ^ 24
    → 2 ^ 52 * nat_abs (sum_z (units binary64) (quotients binary64 (x ∷ xs) (total binary64 nought (x ∷ xs))) -ℤ pos (2 ^ 1074))
    ≤ length (x ∷ xs) * (2 ^ 1074 + sum_of (λ t. nat_abs (units binary64 t)) (quotients binary64 (x ∷ xs) (total binary64 nought (x ∷ xs))))
normalized_f64 x xs a t u k = normalized_whole binary64 x xs a t u (le_trans k (lit≤ tt))
