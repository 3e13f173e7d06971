-- The series does not turn on the sign of what it is taken at. Assumes nothing.
use Rattle.std.specs.Prelude.{◌≡◌, refl, Bool, true, false, ℕ, zero, suc, Float}
use Rattle.std.specs.Float.{binary64}
use Rattle.std.specs.Float.Ieee.{neg}
use Rattle.laws.specs.Binary64.{◌⊘◌, whole}
use Rattle.laws.specs.Signs.{div_neg, mul_neg_both}
use Rattle.math_bessel.specs.Series.{term, partial, small, first_small, terms_of, series_at, series_of, settled}

term_neg : (h : Float) (k : ℕ) → term (neg h) k ≡ term h k
unfolding term
term_neg h zero = refl
term_neg h (suc k) = rw (term_neg h k, div_neg binary64 h (whole (suc k)), mul_neg_both binary64 (h ⊘ whole (suc k)) (h ⊘ whole (suc k)))

partial_neg : (h : Float) (k : ℕ) → partial (neg h) k ≡ partial h k
unfolding partial
partial_neg h zero = refl
partial_neg h (suc k) = rw (partial_neg h k, term_neg h (suc k))

small_neg : (h : Float) (k : ℕ) → small (neg h) k ≡ small h k
unfolding small
small_neg h k = rw (term_neg h k, partial_neg h k)

first_neg : (h : Float) (d : ℕ) (b : Bool) (k : ℕ) → first_small (neg h) d b k ≡ first_small h d b k
unfolding first_small
first_neg h zero b k = refl
first_neg h (suc d) true k = refl
first_neg h (suc d) false k = rw (small_neg h (suc k)) (first_neg h d (small h (suc k)) (suc k))

terms_neg : (h : Float) → terms_of (neg h) ≡ terms_of h
unfolding terms_of
terms_neg h = rw (small_neg h 1) (first_neg h 499 (small h 1) 1)

pub settled_neg : (x : Float) → settled (neg x) ≡ settled x
unfolding series_of series_at
settled_neg x =
    let h = x ⊘ whole 2 in
    rw (div_neg binary64 x (whole 2), terms_neg h, small_neg h (terms_of h), partial_neg h (terms_of h))
