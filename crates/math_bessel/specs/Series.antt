-- The power series of the modified Bessel function of order 0, in f64. Definitions only.
--   I0(x) = Σ ((x/2)^k / k!)²,  k = 0, 1, 2, ..
-- It stops after the first term, k = 1 or more, that is below 1e-17 of the sum so far, or after k = 500. It has settled
-- where a term of those 500 was so small, and the sum is finite.
use Rattle.std.specs.Prelude.{ℕ, zero, suc, ◌^◌, Bool, true, false, ◌&&◌, Float}
use Rattle.std.specs.Float.Ieee.{lt}
use Rattle.std.specs.Float.Ieee.Scale.{finite}
use Rattle.laws.specs.Binary64.{◌⊕◌, ◌⊗◌, ◌⊘◌, whole, fraction}
use Rattle.math_bessel.specs.declared.Series.{Series}

-- the term k for the half h of x, from the one before it
unfoldable pub term : Float → ℕ → Float
term h zero = whole 1
term h (suc k) = let f = h ⊘ whole (suc k) in term h k ⊗ (f ⊗ f)

-- the sum of the terms 0 to k, by rising index
unfoldable pub partial : Float → ℕ → Float
unfolding term
partial h zero = whole 1
partial h (suc k) = partial h k ⊕ term h (suc k)

-- 1e-17
abbrev pub least : Float
least = fraction 1 (10 ^ 17)

-- whether the term k ends the series
unfoldable pub small : Float → ℕ → Bool
unfolding term partial
small h k = lt (term h k) (least ⊗ partial h k)

-- The first of k, k + 1, .., k + d - 1 that ends the series, and k + d where none does; b says whether k does.
unfoldable pub first_small : Float → ℕ → Bool → ℕ → ℕ
unfolding small
first_small h zero b k = k
first_small h (suc d) true k = k
first_small h (suc d) false k = first_small h d (small h (suc k)) (suc k)

unfoldable pub terms_of : Float → ℕ
unfolding first_small
terms_of h = first_small h 499 (small h 1) 1

-- By the half h of x. "A series isn't settled if 500 terms passed without its stopping test being met, or its sum isn't
-- finite": the last term taken is small unless none was. A sum that overflows under a finite term ends the series at
-- once, so the number of terms says nothing.
unfoldable pub series_at : Float → Series
unfolding terms_of partial small
series_at h = record { sum = partial h (terms_of h); terms = terms_of h; settled = small h (terms_of h) && finite (partial h (terms_of h)) }

unfoldable pub series_of : Float → Series
unfolding series_at
series_of x = series_at (x ⊘ whole 2)

abbrev pub settled : Float → Bool
settled x = (series_of x).settled
