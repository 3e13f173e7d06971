-- The angle of a tap is 8 at most, so four times it is within the cosine's range. Assumes nothing.
use Rattle.std.specs.Prelude.{◌≡◌, refl, ℕ, zero, suc, ◌*◌, ◌^◌, ◌≤◌, ◌<◌, T, Float}
use Rattle.std.proofs.Common.{ap, le_trans, le_refl, mul-pos, mul-le-mul_right, zero-lt-suc, arith, lit≤}
use Rattle.std.proofs.Math.Bool.{false}
use Rattle.std.proofs.Math.Dec.{eqb-suc-zero}
use Rattle.std.specs.Float.{nan, inf, fin, Format}
use Rattle.std.specs.Float.Ieee.{binary64, up, down, unlike, round, mul, div, of_int, of_bits, le}
use Rattle.std.specs.Float.Ieee.Back.{round_whole}
use Rattle.std.specs.Float.Ieee.Exact.{HasValue}
use Rattle.std.specs.Float.Ieee.Fits.{up_pos, down_pos}
use Rattle.std.specs.Float.Ieee.Order.{le_of_values}
use Rattle.laws.specs.AtMost.{AtMost, round_at_most, mul_at_most}
use Rattle.laws.specs.Binary64.{◌⊗◌, whole, pi}
use Rattle.math_round.specs.Whole.{abs_of}
use Rattle.math_trig.specs.Trig.{limit}
use Rattle.win_shapes.specs.Windows.{angle}

-- ---- a quotient by a whole number k: n over it is N at most
divided : (x dx y dy n k N : ℕ) → y * 1 ≡ k * dy → n ≤ N * k → x * 1 ≤ n * dx → x * dy * 1 ≤ N * (y * dx)
divided x dx y dy n k N e h a =
    let b : x * 1 * dy ≤ n * dx * dy = mul-le-mul_right dy a in
    let c : n * (dx * dy) ≤ N * k * (dx * dy) = mul-le-mul_right (dx * dy) h in
    let d : y * 1 * (N * dx) ≡ k * dy * (N * dx) = ap (λ (z : ℕ). z * (N * dx)) e in
    omega arith

div_at_most : (f : Format) (x y : Float) (n k N : ℕ) → HasValue y false k 1 → 0 < k
    → HasValue (round f false N 1) false N 1 → n ≤ N * k → AtMost x n 1 → AtMost (div f x y) N 1
unfolding div
div_at_most f nan y n k N v K r h a = absurd a
div_at_most f (inf s) y n k N v K r h a = absurd a
div_at_most f (fin s m e) nan n k N v K r h a = absurd v
div_at_most f (fin s m e) (inf t) n k N v K r h a = absurd v
div_at_most f (fin s m e) (fin t zero d) n k N v K r h a = absurd (none (down d) (mul-pos K (down_pos d)) v.1)
  where
    none : (D : ℕ) → 0 < k * D → 0 * up d * 1 ≡ k * D → ⊥
    none D p q = omega arith
div_at_most f (fin s m e) (fin t (suc j) d) n k N v K r h a =
    let y : 0 < suc j * up d * down e = mul-pos (mul-pos (zero-lt-suc j) (up_pos d)) (down_pos e) in
    rw (eqb-suc-zero j)
    (round_at_most f (unlike s t) (m * up e * down d) (suc j * up d * down e) N 1 y (lit≤ tt) r
    (divided (m * up e) (down e) (suc j * up d) (down d) n k N v.1 h a))

-- ---- the angle
whole_value : (n : ℕ) → n ≤ 2 ^ 53 → HasValue (whole n) false n 1
unfolding of_int
whole_value n h = round_whole binary64 false n h

whole_at_most : (n k : ℕ) → n ≤ k → k ≤ 2 ^ 53 → AtMost (whole n) k 1
unfolding of_int
whole_at_most n k h l =
    round_at_most binary64 false n 1 k 1 (lit≤ tt) (lit≤ tt) (round_whole binary64 false k l) (mul-le-mul_right 1 h)

turn : AtMost (whole 2 ⊗ pi) 8 1
unfolding mul of_int of_bits round
turn = lit≤ tt

-- what is 2^25 at most is in range
in_range : (x : Float) (n : ℕ) → n ≤ 33554432 → AtMost x n 1 → T (le (abs_of x) limit)
unfolding abs_of
in_range nan n l h = absurd h
in_range (inf s) n l h = absurd h
in_range (fin s m e) n l h =
    le_of_values (fin false m e) limit (m * up e) (down e) 33554432 1 (down_pos e) (lit≤ tt) (refl, refl)
    (whole_value 33554432 (lit≤ tt)) (le_trans h (mul-le-mul_right (down e) l))

module _ (i d : ℕ) (h : i ≤ d) (D : 0 < d) (l : d ≤ 16777216) where
  angle_at_most : AtMost (angle (whole i) (whole d)) 8 1
  unfolding angle
  angle_at_most =
      let a : AtMost (whole i) i 1 = whole_at_most i i (le_refl i) (omega arith) in
      div_at_most binary64 (whole 2 ⊗ pi ⊗ whole i) (whole d) (8 * i) d 8 (whole_value d (omega arith)) D
      (round_whole binary64 false 8 (lit≤ tt)) (omega arith)
      (mul_at_most binary64 (whole 2 ⊗ pi) (whole i) 8 1 i 1 (8 * i) 1 (lit≤ tt) (lit≤ tt)
      (round_whole binary64 false (8 * i) (omega arith)) (omega arith) turn a)

  pub plain_inside : T (le (abs_of (angle (whole i) (whole d))) limit)
  plain_inside = in_range (angle (whole i) (whole d)) 8 (lit≤ tt) angle_at_most

  pub angle_inside : (k : ℕ) → k ≤ 4 → T (le (abs_of (whole k ⊗ angle (whole i) (whole d))) limit)
  angle_inside k u =
      let x = angle (whole i) (whole d) in
      in_range (whole k ⊗ x) 32 (lit≤ tt)
      (mul_at_most binary64 (whole k) x 4 1 8 1 32 1 (lit≤ tt) (lit≤ tt)
      (round_whole binary64 false 32 (lit≤ tt)) (lit≤ tt) (whole_at_most k 4 u (lit≤ tt)) angle_at_most)
