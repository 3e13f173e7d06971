-- What the reduction of an argument rests on: the number of quarter turns is a whole number of a size far below 2 ^ 50.
-- Assumes nothing.
use Rattle.std.specs.Prelude.{◌≡◌, refl, ℕ, zero, suc, ◌*◌, ◌^◌, ◌≤◌, ◌<◌, Bool, true, false, T, nat_abs, Float}
use Rattle.std.proofs.Common.{sym, ap, ◌∙◌, le_trans, arith, lit≤}
use Rattle.std.specs.Float.{nan, inf, fin, binary64}
use Rattle.std.specs.Float.Ieee.{of_bits, of_int, up, down, neg, div, round, le}
use Rattle.std.specs.Float.Ieee.Back.{round_whole}
use Rattle.std.specs.Float.Ieee.Exact.{HasValue}
use Rattle.laws.specs.AtMost.{AtMost, at_most_finite, of_le, mul_at_most, add_at_most, floor_at_most}
use Rattle.laws.specs.Binary64.{◌⊕◌, ◌⊗◌, ◌⊘◌, whole, fraction, pi}
use Rattle.laws.specs.Floor.{floor_z}
use Rattle.laws.specs.Units.{is_neg}
use Rattle.math_round.specs.Laws.{floor_value}
use Rattle.math_round.specs.Whole.{abs_of}
use Rattle.math_trig.specs.Trig.{quarters, quadrant, rest, sine_series, cosine_series, sine_in, cosine_in, limit, sin_of, cos_of}

-- ---- how large the number of quarter turns can be
pub record Small (k : Float) : Type 0 where
  pub s : Bool
  pub n : ℕ
  pub value : HasValue k s n 1
  pub small : n ≤ 2 ^ 50

limit_value : HasValue limit false 33554432 1
unfolding of_int
limit_value = (refl, refl)

at_limit : (x : Float) → T (le (abs_of x) limit) → AtMost x 33554432 1
unfolding abs_of le of_int
at_limit nan t = absurd t
at_limit (inf s) t = absurd t
at_limit (fin s m e) t = of_le (fin false m e) limit (m * up e) (down e) 33554432 1 (refl, refl) limit_value t

fewer : AtMost (whole 2 ⊘ pi) 1 1
unfolding div of_int of_bits
fewer = lit≤ tt

half : AtMost (fraction 1 2) 1 1
unfolding round
half = lit≤ tt

-- what the number of quarter turns is the floor of
pub turns_small : (x : Float) → T (le (abs_of x) limit) → AtMost (x ⊗ (whole 2 ⊘ pi) ⊕ fraction 1 2) (2 ^ 50) 1
turns_small x t =
    let c = whole 2 ⊘ pi in
    let a : AtMost (x ⊗ c) 33554432 1 = mul_at_most binary64 x c 33554432 1 1 1 33554432 1 (lit≤ tt) (lit≤ tt) (round_whole binary64 false 33554432 (lit≤ tt)) (lit≤ tt) (at_limit x t) fewer in
    add_at_most binary64 (x ⊗ c) (fraction 1 2) 33554432 1 1 1 (2 ^ 50) 1 (lit≤ tt) (lit≤ tt) (lit≤ tt) (round_whole binary64 false (2 ^ 50) (lit≤ tt)) (lit≤ tt) a half

pub quarters_small : (x : Float) → T (le (abs_of x) limit) → Small (quarters x)
unfolding quarters
quarters_small x t =
    let y = x ⊗ (whole 2 ⊘ pi) ⊕ fraction 1 2 in
    let b : AtMost y (2 ^ 50) 1 = turns_small x t in
    let n : nat_abs (floor_z y) ≤ 2 ^ 50 = floor_at_most y (2 ^ 50) b in
    record { s = is_neg y; n = nat_abs (floor_z y); value = floor_value y (at_most_finite y (2 ^ 50) 1 b) (le_trans n (lit≤ tt)); small = n }

-- x is within the limit, q is its quadrant and r what is left of it
pub record Split (x : Float) (q : ℕ) (r : Float) : Type 0 where
  pub inside : le (abs_of x) limit ≡ true
  pub quarter : q ≡ quadrant x
  pub left : r ≡ rest x

-- ---- the two functions inside their range, by the quadrant
-- a table by the quadrant, of the series at what is left
abbrev pub At : (ℕ → Float → Float → Float) → ℕ → Float → Float
At table q r = table q (sine_series r) (cosine_series r)

at_same : (table : ℕ → Float → Float → Float) (x : Float) (q : ℕ) (r : Float) → q ≡ quadrant x → r ≡ rest x → At table q r ≡ At table (quadrant x) (rest x)
at_same table x q r e h = ap (λ (z : ℕ). At table z r) e ∙ ap (λ (z : Float). At table (quadrant x) z) h

pub sin_at : (x : Float) (q : ℕ) (r : Float) → le (abs_of x) limit ≡ true → q ≡ quadrant x → r ≡ rest x → At sine_in q r ≡ sin_of x
unfolding sin_of
sin_at x q r t e h = at_same sine_in x q r e h ∙ sym (rw t)

pub cos_at : (x : Float) (q : ℕ) (r : Float) → le (abs_of x) limit ≡ true → q ≡ quadrant x → r ≡ rest x → At cosine_in q r ≡ cos_of x
unfolding cos_of
cos_at x q r t e h = at_same cosine_in x q r e h ∙ sym (rw t)

-- the last arm of each table
last : (q : ℕ) → 2 < q → (n : ℕ) × (q ≡ suc (suc (suc n)))
last zero h = absurd (omega arith)
last (suc zero) h = absurd (omega arith)
last (suc (suc zero)) h = absurd (omega arith)
last (suc (suc (suc n))) h = (n, refl)

pub sine_last : (q : ℕ) (r : Float) → 2 < q → neg (cosine_series r) ≡ At sine_in q r
sine_last q r h = ap (λ (z : ℕ). At sine_in z r) (sym (last q h).1)

pub cosine_last : (q : ℕ) (r : Float) → 2 < q → sine_series r ≡ At cosine_in q r
cosine_last q r h = ap (λ (z : ℕ). At cosine_in z r) (sym (last q h).1)

-- ---- and outside
pub sin_outside : (x : Float) → le (abs_of x) limit ≡ false → nan ≡ sin_of x
unfolding sin_of
sin_outside x t = sym (rw t)

pub cos_outside : (x : Float) → le (abs_of x) limit ≡ false → nan ≡ cos_of x
unfolding cos_of
cos_outside x t = sym (rw t)
