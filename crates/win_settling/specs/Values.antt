-- Where its series have settled, a value of Kaiser's window is finite and its sign is clear. Assumes nothing.
use Rattle.std.specs.Prelude.{◌≡◌, true, T, Float}
use Rattle.std.proofs.Common.{sym, subst, lit<}
use Rattle.std.specs.Float.{binary64}
use Rattle.std.specs.Float.Ieee.{of_int, round}
use Rattle.std.specs.Float.Ieee.Scale.{finite}
use Rattle.laws.specs.Binary64.{◌⊘◌, whole}
use Rattle.laws.specs.PowersOfTwo.{over_one}
use Rattle.laws.specs.Under.{natural, div_over, natural_finite}
use Rattle.math_bessel.specs.Series.{series_of, settled}
use Rattle.math_settling.specs.Sums.{settled_least, series_fits}
use Rattle.win_shapes.specs.Windows.{kaiser_value}

by_one : (x : Float) → (series_of x).sum ⊘ whole 1 ≡ (series_of x).sum
unfolding of_int round
by_one x = over_one binary64 (series_of x).sum (series_fits x)

-- a sum over one of 1 at least is itself at most
pub value_natural : (beta x : Float) → settled beta ≡ true → settled x ≡ true → T (natural (kaiser_value (series_of beta).sum x))
unfolding of_int round
value_natural beta x b e =
    let s = (series_of x).sum in
    let p = (settled_least x e).upper in
    (div_over binary64 s (whole 1) (series_of beta).sum p (lit< tt) (settled_least beta b) (subst (λ (z : Float). T (finite z)) (sym (by_one x)) (natural_finite s p))).lower
