-- The radicand of Kaiser's window is a value of the format from 0 to 1. Assumes nothing.
use Rattle.std.specs.Prelude.{◌≡◌, ℕ, ◌-◌, ◌*◌, ◌<◌, ◌≤◌, Bool, true, false, cond, T, pos, nat_lt, refl, Float}
use Rattle.std.proofs.Common.{sym, subst, arith, lit<}
use Rattle.std.specs.Float.{nan, inf, fin, binary64}
use Rattle.std.specs.Float.Ieee.{up, down, round, of_int, sum, add, sub, neg, lt, fits}
use Rattle.std.specs.Float.Ieee.Fits.{down_pos, cond-fits, sub-fits, of_int-fits}
use Rattle.std.specs.Float.Ieee.Scale.{finite}
use Rattle.laws.specs.Binary64.{◌⊖◌, ◌⊗◌, ◌⊘◌, whole}
use Rattle.win_shapes.specs.Windows.{not_below0, kaiser_radicand}
use Rattle.math_settling.specs.Steps.{one_natural}
use Rattle.laws.specs.Under.{Under, signed, unsigned, round_signed, round_under, square_unsigned}
use Rattle.math_settling.specs.Small.{zero_under}

-- ---- 0 in its place
nothing : Under (whole 0) (whole 1)
nothing = zero_under (whole 1) one_natural

of_set : (z : Float) → T (signed true z) → Under (not_below0 z) (whole 1)
unfolding not_below0 of_int round lt
of_set nan t = absurd t
of_set (inf true) t = nothing
of_set (inf false) t = absurd t
of_set (fin true m e) t = nothing
of_set (fin false m e) t = absurd t

of_nan : Under (not_below0 nan) (whole 1)
unfolding not_below0 of_int round lt
of_nan = nothing

of_under : (z : Float) → Under z (whole 1) → Under (not_below0 z) (whole 1)
unfolding not_below0
of_under z u = go (lt (whole 0) z)
  where
    go : (b : Bool) → Under (cond b z (whole 0)) (whole 1)
    go true = u
    go false = nothing

-- ---- 1 less a square
round_one : (a c : ℕ) → 0 < c → a ≤ c → Under (round binary64 false a c) (whole 1)
unfolding of_int
round_one a c C h = round_under binary64 a c 1 1 C (lit< tt) (omega arith) one_finite
  where
    one_finite : T (finite (round binary64 false 1 1))
    one_finite = unfold round in tt

unit : Float
unit = fin false 1 (pos 0)

unit_less : (q : Float) → T (unsigned q) → Under (not_below0 (sub binary64 unit q)) (whole 1)
unfolding unit sub add neg sum
unit_less nan t = of_nan
unit_less (inf true) t = absurd t
unit_less (inf false) t = of_set (inf true) tt
unit_less (fin true n d) t = absurd t
unit_less (fin false n d) t = go (nat_lt (1 * 1 * down d) (n * up d * 1))
  where
    go : (b : Bool) → Under (not_below0 (cond b (round binary64 true (n * up d * 1 - 1 * 1 * down d) (1 * down d)) (round binary64 false (1 * 1 * down d - n * up d * 1) (1 * down d)))) (whole 1)
    go true = of_set (round binary64 true (n * up d * 1 - 1 * 1 * down d) (1 * down d)) (round_signed binary64 true (n * up d * 1 - 1 * 1 * down d) (1 * down d))
    go false =
        let D : 0 < down d = down_pos d in
        of_under (round binary64 false (1 * 1 * down d - n * up d * 1) (1 * down d)) (round_one (1 * 1 * down d - n * up d * 1) (1 * down d) (omega arith) (omega arith))

one_is : whole 1 ≡ unit
unfolding unit of_int round
one_is = refl

one_less : (q : Float) → T (unsigned q) → Under (not_below0 (whole 1 ⊖ q)) (whole 1)
one_less q t = subst (λ (z : Float). Under (not_below0 (sub binary64 z q)) (whole 1)) (sym one_is) (unit_less q t)

pub radicand_under : (p d : Float) → Under (kaiser_radicand p d) (whole 1)
unfolding kaiser_radicand
radicand_under p d = let t = whole 2 ⊗ p ⊘ d ⊖ whole 1 in one_less (t ⊗ t) (square_unsigned binary64 t)

pub radicand_fits : (p d : Float) → T (fits binary64 (kaiser_radicand p d))
unfolding kaiser_radicand not_below0
radicand_fits p d =
    let t = whole 2 ⊗ p ⊘ d ⊖ whole 1 in
    let z = whole 1 ⊖ t ⊗ t in
    cond-fits binary64 (lt (whole 0) z) z (whole 0) (sub-fits binary64 (whole 1) (t ⊗ t)) (of_int-fits binary64 (pos 0))
