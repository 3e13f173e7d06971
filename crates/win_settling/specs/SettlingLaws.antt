-- Where beta is from 0 to 713, every series of Kaiser's window settles, of whichever length: no series need be asked.
-- Assumes nothing.
use Rattle.std.specs.Prelude.{◌≡◌, ℕ, ◌*◌, Bool, true, false, ◌||◌, T, ℤ, ◌==◌, refl, Float}
use Rattle.std.proofs.Common.{sym, ap, ◌∙◌, subst, arith, eq-eqb, ne_eqb, eqb→eq}
use Rattle.std.specs.Float.{nan, inf, fin, binary64}
use Rattle.std.specs.Float.Ieee.{of_int, round, mul, neg, le, up, down}
use Rattle.std.specs.Float.Ieee.Fits.{and_l}
use Rattle.std.specs.Float.Ieee.Scale.{finite}
use Rattle.laws.specs.Binary64.{◌⊗◌, whole}
use Rattle.laws.specs.AtMost.{AtMost, of_test}
use Rattle.laws.specs.Every.{every, every_all}
use Rattle.laws.specs.Signs.{mul_neg}
use Rattle.laws.specs.Under.{Under, mul_under}
use Rattle.math_bessel.specs.Series.{settled}
use Rattle.math_settling.specs.Even.{settled_neg}
use Rattle.math_settling.specs.Small.{under_settled, settled_to_713}
use Rattle.math_sqrt.specs.Sqrt.{sqrt_of}
use Rattle.win_shapes.specs.Windows.{kaiser_radicand}
use Rattle.win_settling.specs.Settling.{element_settles, kaiser_settles}
use Rattle.win_settling.specs.Radicand.{radicand_under, radicand_fits}
use Rattle.win_settling.specs.Root.{root_under}

-- ---- beta times a root of 1 at most is 713 at most
top_once : whole 713 ⊗ whole 1 ≡ whole 713
unfolding of_int round mul
top_once = refl

top_finite : T (finite (whole 713))
unfolding of_int round
top_finite = tt

times_settled : (beta s : Float) → Under beta (whole 713) → Under s (whole 1) → settled (beta ⊗ s) ≡ true
times_settled beta s b u =
    under_settled (beta ⊗ s) (subst (λ (z : Float). Under (beta ⊗ s) z) top_once (mul_under binary64 b u (subst (λ (z : Float). T (finite z)) (sym top_once) top_finite)))

-- beta of either sign, since -0 is taken
any_sign : (beta s : Float) → AtMost beta 713 1 → Under s (whole 1) → settled (beta ⊗ s) ≡ true
unfolding of_int round neg
any_sign nan s h u = absurd h
any_sign (inf t) s h u = absurd h
any_sign (fin false m e) s h u = times_settled (fin false m e) s (record { lower = tt; upper = tt; order = h }) u
any_sign (fin true m e) s h u =
    ap settled (mul_neg binary64 (fin false m e) s) ∙ settled_neg (fin false m e ⊗ s) ∙ times_settled (fin false m e) s (record { lower = tt; upper = tt; order = h }) u

pub element_settled : (beta : Float) (d i : ℕ) → AtMost beta 713 1 → element_settles beta d i ≡ true
element_settled beta d i h =
    let r = kaiser_radicand (whole i) (whole d) in
    any_sign beta (sqrt_of r) h (root_under r (radicand_fits (whole i) (whole d)) (radicand_under (whole i) (whole d)))

-- ---- by the tests that code makes of beta
zero_test : (m : ℕ) (e : ℤ) → T (le (whole 0) (fin true m e)) → m * up e ≡ 0
unfolding of_int round le
zero_test m e t = let g = eqb→eq (0 * down e) (m * up e * 1) (and_l (0 * down e == m * up e * 1) _ t) in omega arith

pub from_0_to_713 : (x : Float) → T (le (whole 0) x) → T (le x (whole 713)) → AtMost x 713 1
unfolding of_int round
from_0_to_713 nan s t = absurd (unfold le in t)
from_0_to_713 (inf true) s t = absurd (unfold le in s)
from_0_to_713 (inf false) s t = absurd (unfold le in t)
from_0_to_713 (fin false m e) s t = of_test (m * up e * 1) (713 * down e) (true || m * up e * 1 == 0) (unfold le in t)
from_0_to_713 (fin true m e) s t = let z = zero_test m e s in omega arith

-- ---- the law
pub settles_to_713 : (beta : Float) (d n : ℕ) → T (le (whole 0) beta) → T (le beta (whole 713)) → kaiser_settles beta d n ≡ true
unfolding kaiser_settles
settles_to_713 beta d n s t =
    let h = from_0_to_713 beta s t in
    rw (settled_to_713 beta h, every_all n (element_settles beta d) (λ i l. element_settled beta d i h)) (go (d == 0))
  where
    go : (b : Bool) → (b || true) ≡ true
    go true = refl
    go false = refl

-- ---- what the tests come to otherwise
module _ (beta : Float) (d n : ℕ) where
  pub no_divisor : d ≡ 0 → kaiser_settles beta d n ≡ true
  unfolding kaiser_settles
  no_divisor e = rw (eq-eqb d 0 e)

  module _ (e : d ≡ 0 → ⊥) where
    pub not_at_beta : settled beta ≡ false → kaiser_settles beta d n ≡ false
    unfolding kaiser_settles
    not_at_beta s = rw (ne_eqb d 0 e, s)

    pub at_elements : settled beta ≡ true → kaiser_settles beta d n ≡ every n (element_settles beta d)
    unfolding kaiser_settles
    at_elements s = rw (ne_eqb d 0 e, s)
