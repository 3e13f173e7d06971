-- The root of a value from 0 to 1 is from 0 to 1. Assumes nothing.
use Rattle.std.specs.Prelude.{◌≡◌, ℕ, zero, suc, ◌+◌, ◌*◌, ◌^◌, ◌<◌, ◌≤◌, Bool, true, false, not, T, pos, refl, Float}
use Rattle.std.proofs.Common.{sym, subst, le_trans, le_of_eq, mul-le-mul, mul-le-mul_right, le_of_mul-le-mul_right, arith, pow_pos}
use Rattle.std.specs.Float.{nan, inf, fin, Format}
use Rattle.std.specs.Float.Ieee.{binary64, low, round, of_int, fits}
use Rattle.std.specs.Float.Ieee.Fits.{of_int-fits}
use Rattle.std.specs.Float.Ieee.Scale.{finite}
use Rattle.std.specs.Float.Ieee.Positive.{num, den, den_pos}
use Rattle.laws.specs.Binary64.{whole}
use Rattle.laws.specs.Cases.{either}
use Rattle.laws.specs.Numbers.{lt_or_le}
use Rattle.laws.specs.Units.{mag, is_neg, mag_cross}
use Rattle.math_sqrt.specs.Sqrt.{NearestRoot, SqrtOf, sqrt_of}
use Rattle.math_sqrt.specs.Laws.{sqrt_nearest, sqrt_fits}
use Rattle.laws.specs.Under.{natural, Under}

-- a finite value's units
pub units_of : (f : Format) (x : Float) → T (fits f x) → T (natural x) → mag f x * den x ≡ num x * 2 ^ low f
units_of f nan F p = absurd p
units_of f (inf s) F p = absurd p
units_of f (fin s m e) F p = mag_cross f s m e F

-- n / d is x / l: 1 at most in the one form as in the other
up_units : (x n d l : ℕ) → 0 < d → x * d ≡ n * l → n * 1 ≤ 1 * d → x ≤ l
up_units x n d l D e h = le_of_mul-le-mul_right {k = d} (le_trans (le_of_eq e) (let g : n * l ≤ d * l = mul-le-mul_right l (omega arith) in omega arith)) D

down_units : (x n d l : ℕ) → 0 < l → x * d ≡ n * l → x ≤ l → n * 1 ≤ 1 * d
down_units x n d l L e h = le_of_mul-le-mul_right {k = l} (let g : x * d ≤ l * d = mul-le-mul_right d h in omega arith) L

-- a root that were above 1 would have 1 on the wrong side
no_more : (s x l : ℕ) → x ≤ l → l < s → (s + l) * (s + l) < 4 * (x * l) → ⊥
no_more s x l h k t =
    let a : (l + l) * (l + l) ≤ (s + l) * (s + l) = mul-le-mul (omega arith) (omega arith) in
    let b : x * l ≤ l * l = mul-le-mul_right l h in
    omega arith

one_units : mag binary64 (whole 1) ≡ 2 ^ low binary64
unfolding mag of_int round
one_units = refl

natural_of : (x : Float) → T (finite x) → is_neg x ≡ false → T (natural x)
natural_of nan u e = u
natural_of (inf s) u e = u
natural_of (fin s m e) u h = subst (λ (b : Bool). T (not b)) (sym h) tt

below_one : (r s : Float) → T (fits binary64 r) → T (fits binary64 s) → Under r (whole 1) → T (natural s) → NearestRoot binary64 r s → Under s (whole 1)
unfolding of_int round
below_one r s F G u p n =
    let l = 2 ^ low binary64 in
    let e = units_of binary64 r F u.lower in
    let x : mag binary64 r ≤ l = up_units (mag binary64 r) (num r) (den r) l (den_pos r) e u.order in
    record {
      lower = p;
      upper = tt;
      order = down_units (mag binary64 s) (num s) (den s) l (pow_pos (low binary64)) (units_of binary64 s G p)
          (either (lt_or_le l (mag binary64 s)) (λ k. absurd (no_more (mag binary64 s) (mag binary64 r) l x k (on_one k))) (λ k. k));
    }
  where
    on_one : 2 ^ low binary64 < mag binary64 s → (mag binary64 s + 2 ^ low binary64) * (mag binary64 s + 2 ^ low binary64) < 4 * (mag binary64 r * 2 ^ low binary64)
    on_one k =
        subst (λ (z : ℕ). (mag binary64 s + z) * (mag binary64 s + z) < 4 * (mag binary64 r * 2 ^ low binary64)) one_units
        (n.under (whole 1) (of_int-fits binary64 (pos 1)) (subst (λ (z : ℕ). z < mag binary64 s) (sym one_units) k))

pub root_under : (r : Float) → T (fits binary64 r) → Under r (whole 1) → Under (sqrt_of r) (whole 1)
root_under nan F u = absurd u.lower
root_under (inf s) F u = absurd u.lower
root_under (fin true m e) F u = absurd u.lower
root_under (fin false zero e) F u = unfold sqrt_of in u
root_under (fin false (suc m) e) F u = go (unfold SqrtOf in sqrt_nearest (fin false (suc m) e) F)
  where
    go : T (finite (sqrt_of (fin false (suc m) e))) × (is_neg (sqrt_of (fin false (suc m) e)) ≡ false) × NearestRoot binary64 (fin false (suc m) e) (sqrt_of (fin false (suc m) e)) → Under (sqrt_of (fin false (suc m) e)) (whole 1)
    go q = below_one (fin false (suc m) e) (sqrt_of (fin false (suc m) e)) F (sqrt_fits (fin false (suc m) e) F) u (natural_of (sqrt_of (fin false (suc m) e)) q.0 q.1) q.2
