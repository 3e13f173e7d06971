-- A sum of the series that is finite is an f64 of 1 at least. Assumes nothing.
use Rattle.std.specs.Prelude.{◌≡◌, refl, true, ℕ, zero, suc, T, pos, Float}
use Rattle.std.proofs.Common.{subst}
use Rattle.std.specs.Float.{binary64}
use Rattle.std.specs.Float.Ieee.{of_int, round, add, fits}
use Rattle.std.specs.Float.Ieee.Fits.{of_int-fits, add-fits}
use Rattle.std.specs.Float.Ieee.Scale.{finite}
use Rattle.laws.specs.Binary64.{◌⊕◌, ◌⊗◌, ◌⊘◌, whole}
use Rattle.laws.specs.Operations.{add_finite, mul_finite}
use Rattle.laws.specs.Tests.{both, holds}
use Rattle.laws.specs.Under.{natural, Under, under_same, add_under, unsigned_natural, square_unsigned, mul_unsigned}
use Rattle.math_bessel.specs.Series.{term, partial, small, terms_of, series_at, series_of, settled}
use Rattle.math_settling.specs.Steps.{one_natural}
use Rattle.math_settling.specs.Small.{zero_under}

-- a term is a product of squares
term_natural : (h : Float) (k : ℕ) → T (finite (term h k)) → T (natural (term h k))
unfolding term
term_natural h zero u = one_natural
term_natural h (suc k) u =
    let f = h ⊘ whole (suc k) in
    let v = mul_finite binary64 (term h k) (f ⊗ f) u in
    let square = unsigned_natural (f ⊗ f) (square_unsigned binary64 f) v.1 in
    unsigned_natural (term h k ⊗ (f ⊗ f)) (mul_unsigned binary64 (term h k) (f ⊗ f) (term_natural h k v.0) square) u

one_and_none : whole 1 ⊕ whole 0 ≡ whole 1
unfolding of_int round add
one_and_none = refl

pub sum_least : (h : Float) (k : ℕ) → T (finite (partial h k)) → Under (whole 1) (partial h k)
unfolding partial
sum_least h zero u = under_same (whole 1) one_natural
sum_least h (suc k) u =
    let t = term h (suc k) in
    let v = add_finite binary64 (partial h k) t u in
    subst (λ (z : Float). Under z (partial h k ⊕ t)) one_and_none (add_under binary64 (sum_least h k v.0) (zero_under t (term_natural h (suc k) v.1)) u)

pub sum_fits : (h : Float) (k : ℕ) → T (fits binary64 (partial h k))
unfolding partial
sum_fits h zero = of_int-fits binary64 (pos 1)
sum_fits h (suc k) = add-fits binary64 (partial h k) (term h (suc k))

-- of a series that has settled
pub settled_least : (x : Float) → settled x ≡ true → Under (whole 1) (series_of x).sum
unfolding series_of series_at
settled_least x e =
    let h = x ⊘ whole 2 in
    sum_least h (terms_of h) (holds (both (small h (terms_of h)) (finite (partial h (terms_of h))) e).1)

pub series_fits : (x : Float) → T (fits binary64 (series_of x).sum)
unfolding series_of series_at
series_fits x = let h = x ⊘ whole 2 in sum_fits h (terms_of h)
