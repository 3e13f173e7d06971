-- Two finite values are compared as their units are. Assumes nothing.
use Rattle.std.specs.Prelude.{◌≡◌, refl, Bool, true, false, not, ℕ, ◌+◌, ◌*◌, ◌^◌, ◌<◌, T, ltb, Float}
use Rattle.std.proofs.Common.{sym, ap, ◌∙◌, zero-le, le_trans, le_of_eq, lt_of_le_of_lt, lt_of_lt_of_le, mul_comm, lt_of_mul-lt-mul_right, le_of_mul-le-mul_right, mul-lt-mul_of_pos_right, mul-le-mul_right, mul-pos, arith, ltb-true, ltb-false, lt-ltb, le-ltb, pow_pos}
use Rattle.std.specs.Float.{nan, inf, fin, Format}
use Rattle.std.specs.Float.Ieee.{low, up, down, below, lt, fits}
use Rattle.std.specs.Float.Ieee.Fits.{down_pos}
use Rattle.std.specs.Float.Ieee.Scale.{finite}
use Rattle.laws.specs.Units.{mag, part, plus, less, mag_cross}

-- u / c is x / l and v / c is y / l
scaled : (u v x y c l : ℕ) → 0 < c → 0 < l → u * l ≡ x * c → v * l ≡ y * c → ltb u v ≡ ltb x y
scaled u v x y c l C L h k = go (ltb x y) refl
  where
    go : (r : Bool) → ltb x y ≡ r → ltb u v ≡ r
    go true t = lt-ltb u v (lt_of_mul-lt-mul_right l (lt_of_le_of_lt (le_of_eq h) (lt_of_lt_of_le (mul-lt-mul_of_pos_right (ltb-true x y t) C) (le_of_eq (sym k)))))
    go false t = le-ltb u v (le_of_mul-le-mul_right (le_trans (le_of_eq k) (le_trans (mul-le-mul_right c (ltb-false x y t)) (le_of_eq (sym h)))) L)

-- a / p is x units, with l units in 1
crossed : (a p q x l : ℕ) → x * p ≡ a * l → a * q * l ≡ x * (p * q)
crossed a p q x l e = let z : x * p * q ≡ a * l * q = ap (λ (v : ℕ). v * q) e in omega arith

-- two values with their fractions a / p and b / q and their units x and y, by their signs
by_signs : (s t : Bool) (a p x b q y l : ℕ) → 0 < p * q → 0 < l → x * p ≡ a * l → y * q ≡ b * l → below s (a * q) t (b * p) ≡ ltb (part s x + part (not t) y) (part t y + part (not s) x)
by_signs s t a p x b q y l P L e g = go s t (a * q) (b * p) (p * q) P (crossed a p q x l e) (crossed b q p y l g ∙ ap (λ (v : ℕ). y * v) (mul_comm q p))
  where
    go : (s t : Bool) (u v c : ℕ) → 0 < c → u * l ≡ x * c → v * l ≡ y * c → below s u t v ≡ ltb (part s x + part (not t) y) (part t y + part (not s) x)
    go false false u v c C h k = scaled u v (x + 0) (y + 0) c l C L (omega arith) (omega arith)
    go false true u v c C h k = sym (le-ltb (x + y) (0 + 0) zero-le)
    go true false u v c C h k = scaled 0 (u + v) (0 + 0) (y + x) c l C L (omega arith) (omega arith)
    go true true u v c C h k = scaled v u (0 + y) (0 + x) c l C L (omega arith) (omega arith)

pub lt_units : (f : Format) (x y : Float) → T (fits f x) → T (fits f y) → T (finite x) → T (finite y) → lt x y ≡ ltb (plus f x + less f y) (plus f y + less f x)
unfolding lt
lt_units f nan y F G u v = absurd u
lt_units f (inf s) y F G u v = absurd u
lt_units f (fin s m e) nan F G u v = absurd v
lt_units f (fin s m e) (inf t) F G u v = absurd v
lt_units f (fin s m e) (fin t n d) F G u v =
    by_signs s t (m * up e) (down e) (mag f (fin s m e)) (n * up d) (down d) (mag f (fin t n d)) (2 ^ low f) (mul-pos (down_pos e) (down_pos d)) (pow_pos (low f)) (mag_cross f s m e F) (mag_cross f t n d G)
