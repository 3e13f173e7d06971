-- A term whose coefficient is +0 changes nothing: what it is added to or taken from is an f64 other than −0. Assumes
-- nothing.
use Rattle.std.specs.Prelude.{◌≡◌, Bool, not, ◌&&◌, ltb, ℤ, pos, Float}
use Rattle.std.proofs.Math.Path.{refl, ap}
use Rattle.std.proofs.Common.{sym, ◌∙◌, subst, add-zero, le_trans, le_of_eq, lt_irrefl, lt_of_lt_of_le, one-mul, zero-mul, mul_comm, mul-le-mul_right, mul-lt-mul_of_pos_right, lt_of_mul-lt-mul_right, ltb→lt, nltb→le, lit≤, pow_pos}
use Rattle.std.proofs.Math.Bool.{true, false, cond}
use Rattle.std.specs.Bool.{beq}
use Prim.Native.Nat.{ℕ, zero, suc, ◌+◌, ◌-◌, ◌*◌, ◌^◌, ◌≤◌, ◌<◌}
use Rattle.std.proofs.Math.Nat.{sub-zero, zero-lt-suc, mul-pos, mul-sub}
use native.Mathlib.Omega.{arith}
use Rattle.std.proofs.Math.Dec.{T, eqb, eqb-suc-zero}
use Rattle.std.specs.Float.Ieee.{nan, binary64, low, up, down, unlike, neg, round, sum, add, sub, mul, div, of_int, fits}
use Rattle.std.specs.Float.{inf, fin, Format, binary32}
use Rattle.std.specs.Float.Ieee.Fits.{up_pos, down_pos, neg-fits}
use Rattle.std.specs.Float.Ieee.Positive.{num, den, first_pos}
use Rattle.std.specs.Float.Ieee.Scale.{round_same, finite}
use Rattle.laws.specs.Binary64.{◌⊕◌, ◌⊖◌, ◌⊗◌, whole}
use Rattle.laws.specs.Cases.{either_way}
use Rattle.laws.specs.PowersOfTwo.{over_one}
use Rattle.laws.specs.Under.{Under, plain, round_plain, round_under}
use Rattle.laws.specs.Units.{mag, is_neg, mag_cross}
use Rattle.laws.specs.Values.{mag_pos}
use Rattle.math_round.specs.Laws.{neg_round}

-- −0 is the one value that adding +0 changes
abbrev pub not_minus : Float → Bool
not_minus nan = true
not_minus (inf s) = true
not_minus (fin s m e) = not (s && eqb m 0)

-- ---- what rounding keeps from −0: a sign that is clear, and one unit or more
nonzero : (s : Bool) (m : ℕ) → 0 < m → T (not (s && eqb m 0))
nonzero false m h = tt
nonzero true zero h = absurd (lt_irrefl 0 h)
nonzero true (suc m) h = rw (eqb-suc-zero m) tt

smallest : (f : Format) → 0 < num (round f false 1 (2 ^ low f))
unfolding round
smallest binary32 = lit≤ tt
smallest binary64 = lit≤ tt

above : (x y : Float) → 0 < num x → (T (finite y) → Under x y) → T (not_minus (neg y))
unfolding neg
above x nan h u = tt
above x (inf s) h u = tt
above x (fin s m e) h u =
    let n : 0 < m * up e * den x = lt_of_lt_of_le (mul-pos h (down_pos e)) (u tt).order in
    nonzero (not s) m (first_pos m (up e) (first_pos (m * up e) (den x) n))

plain_clear : (x : Float) → T (plain x) → T (not_minus x)
plain_clear nan h = tt
plain_clear (inf s) h = tt
plain_clear (fin false m e) h = tt
plain_clear (fin true m e) h = absurd h

round_clear : (f : Format) (s : Bool) (a c : ℕ) → 0 < c → (T s → c ≤ a * 2 ^ low f) → T (not_minus (round f s a c))
round_clear f false a c C h = plain_clear (round f false a c) (round_plain f a c)
round_clear f true a c C h =
    subst (λ (z : Float). T (not_minus z)) (neg_round f false a c)
    (above (round f false 1 (2 ^ low f)) (round f false a c) (smallest f)
    (round_under f 1 (2 ^ low f) a c (pow_pos (low f)) C (le_trans (le_of_eq (one-mul c)) (h tt))))

-- ---- a sum is −0 only where both terms are
-- The terms are values of the format, so that a sum which isn't 0 is a unit at least: less would round to a zero that
-- may have its sign set.

-- two numbers of units, over c
unit_apart : (a b l x y c : ℕ) → 0 < l → a * l ≡ x * c → b * l ≡ y * c → b < a → c ≤ (a - b) * l
unit_apart a b l x y c L p q h =
    let k : b * l < a * l = mul-lt-mul_of_pos_right h L in
    let g : y < x = lt_of_mul-lt-mul_right c (omega arith) in
    let w : suc y * c ≤ x * c = mul-le-mul_right c g in
    let d : l * (a - b) ≡ l * a - l * b = mul-sub l a b in
    omega arith

sum_clear : (f : Format) (s : Bool) (a : ℕ) (t : Bool) (b c x y : ℕ) → 0 < c
    → a * 2 ^ low f ≡ x * c → b * 2 ^ low f ≡ y * c → (T s → 0 < x) → T (not_minus (sum f s a t b c))
unfolding sum
sum_clear f true a true b c x y C p q h = round_clear f true (a + b) c C (λ u. more (mul-le-mul_right c (h tt)))
  where
    more : 1 * c ≤ x * c → c ≤ (a + b) * 2 ^ low f
    more w = omega arith
sum_clear f true a false b c x y C p q h = go (ltb a b) (ltb b a) (ltb→lt b a)
  where
    go : (u v : Bool) → (T v → b < a) → T (not_minus (cond u (round f false (b - a) c) (round f v (a - b) c)))
    go true v k = round_clear f false (b - a) c C absurd
    go false v k = round_clear f v (a - b) c C (λ w. unit_apart a b (2 ^ low f) x y c (pow_pos (low f)) p q (k w))
sum_clear f false a true b c x y C p q h = go (ltb a b) (ltb→lt a b)
  where
    go : (u : Bool) → (T u → a < b) → T (not_minus (cond u (round f true (b - a) c) (round f false (a - b) c)))
    go true k = round_clear f true (b - a) c C (λ w. unit_apart b a (2 ^ low f) y x c (pow_pos (low f)) q p (k tt))
    go false k = round_clear f false (a - b) c C absurd
sum_clear f false a false b c x y C p q h = round_clear f false (a + b) c C absurd

-- where the sign is set
units_pos : (f : Format) (s : Bool) (m : ℕ) (e : ℤ) → T (fits f (fin s m e)) → T (not_minus (fin s m e)) → T s
    → 0 < mag f (fin s m e)
units_pos f true zero e F h t = absurd h
units_pos f true (suc m) e F h t = mag_pos f true m e F
units_pos f false m e F h t = absurd t

-- u / d is k / l: over a common denominator
over_both : (k u l d d' : ℕ) → k * d ≡ u * l → u * d' * l ≡ k * (d * d')
over_both k u l d d' p = let g : k * d * d' ≡ u * l * d' = ap (λ (z : ℕ). z * d') p in omega arith

module _ (f : Format) where
  pub add_keeps_clear : (x y : Float) → T (fits f x) → T (fits f y) → T (not_minus x) → T (not_minus (add f x y))
  unfolding add
  add_keeps_clear nan y F G h = tt
  add_keeps_clear (inf s) nan F G h = tt
  add_keeps_clear (inf s) (inf t) F G h = either_way (λ (z : Float). T (not_minus z)) (beq s t) (inf s) nan tt tt
  add_keeps_clear (inf s) (fin t n d) F G h = tt
  add_keeps_clear (fin s m e) nan F G h = tt
  add_keeps_clear (fin s m e) (inf t) F G h = tt
  add_keeps_clear (fin s m e) (fin t n d) F G h =
      let x = mag f (fin s m e) in
      let y = mag f (fin t n d) in
      sum_clear f s (m * up e * down d) t (n * up d * down e) (down e * down d) x y (mul-pos (down_pos e) (down_pos d))
      (over_both x (m * up e) (2 ^ low f) (down e) (down d) (mag_cross f s m e F))
      (rw (mul_comm (down e) (down d)) (over_both y (n * up d) (2 ^ low f) (down d) (down e) (mag_cross f t n d G)))
      (units_pos f s m e F h)

  pub sub_keeps_clear : (x y : Float) → T (fits f x) → T (fits f y) → T (not_minus x) → T (not_minus (sub f x y))
  unfolding sub
  sub_keeps_clear x y F G h = add_keeps_clear x (neg y) F (neg-fits f y G) h

-- ---- a zero of either sign, added
module _ (f : Format) where
  zero_sum : (s : Bool) (a : ℕ) (t : Bool) (c : ℕ) → (T s → 0 < a) → sum f s a t 0 c ≡ round f s a c
  unfolding sum
  zero_sum true a true c h = ap (λ (z : ℕ). round f true z c) (add-zero a)
  zero_sum true a false c h = go (ltb a 0) (ltb 0 a) (ltb→lt a 0) (nltb→le 0 a)
    where
      go : (u v : Bool) → (T u → a < 0) → (T (not v) → a ≤ 0)
          → cond u (round f false (0 - a) c) (round f v (a - 0) c) ≡ round f true a c
      go true v p q = absurd (let l = p tt in omega arith)
      go false true p q = ap (λ (z : ℕ). round f true z c) (sub-zero a)
      go false false p q = absurd (let l = q tt in let k = h tt in omega arith)
  zero_sum false a true c h = go (ltb a 0) (ltb→lt a 0)
    where
      go : (u : Bool) → (T u → a < 0) → cond u (round f true (0 - a) c) (round f false (a - 0) c) ≡ round f false a c
      go true p = absurd (let l = p tt in omega arith)
      go false p = ap (λ (z : ℕ). round f false z c) (sub-zero a)
  zero_sum false a false c h = ap (λ (z : ℕ). round f false z c) (add-zero a)

  own_value : (s : Bool) (m : ℕ) (e : ℤ) → T (fits f (fin s m e)) → round f s (m * up e * 1) (down e * 1) ≡ fin s m e
  unfolding div
  own_value s m e F =
      let a = m * up e * 1 in
      let D : 0 < down e = down_pos e in
      round_same f s a (down e * 1) a (1 * 1 * down e) (mul-pos D (lit≤ tt)) (mul-pos (lit≤ tt) D)
      (cross (m * up e) (down e))
      ∙ ap (λ (z : Bool). round f z a (1 * 1 * down e)) (sym (unlike_clear s))
      ∙ over_one f (fin s m e) F
    where
      cross : (a d : ℕ) → a * 1 * (1 * 1 * d) ≡ a * 1 * (d * 1)
      cross a d = omega arith

      unlike_clear : (s : Bool) → unlike s false ≡ s
      unlike_clear true = refl
      unlike_clear false = refl

  and_zero : (v : Float) (t : Bool) → T (fits f v) → T (not_minus v) → add f v (fin t 0 (pos 0)) ≡ v
  unfolding add
  and_zero nan t F h = refl
  and_zero (inf s) t F h = refl
  and_zero (fin s m e) t F h =
      ap (λ (z : ℕ). sum f s (m * up e * 1) t z (down e * 1)) (zero-mul (down e))
      ∙ zero_sum s (m * up e * 1) t (down e * 1) (λ k. mul-pos (mul-pos (size_pos s m h k) (up_pos e)) (lit≤ tt))
      ∙ own_value s m e F
    where
      size_pos : (s : Bool) (m : ℕ) → T (not (s && eqb m 0)) → T s → 0 < m
      size_pos true zero h k = absurd h
      size_pos true (suc m) h k = zero-lt-suc m
      size_pos false m h k = absurd k

  round_zero : (s : Bool) (c : ℕ) → 0 < c → round f s 0 c ≡ fin s 0 (pos 0)
  round_zero s c C = round_same f s 0 c 0 1 C (lit≤ tt) (sym (zero-mul c)) ∙ at_one f
    where
      at_one : (f : Format) → round f s 0 1 ≡ fin s 0 (pos 0)
      at_one binary32 = unfold round in refl
      at_one binary64 = unfold round in refl

  zero_times : (c : Float) → T (finite c) → mul f (fin false 0 (pos 0)) c ≡ fin (is_neg c) 0 (pos 0)
  unfolding mul
  zero_times nan u = absurd u
  zero_times (inf s) u = absurd u
  zero_times (fin s m e) u =
      ap (λ (z : ℕ). round f (unlike false s) z (1 * down e)) (zero-mul (m * up e))
      ∙ ap (λ (z : Bool). round f z 0 (1 * down e)) (unlike_clear s)
      ∙ round_zero s (1 * down e) (mul-pos (lit≤ tt) (down_pos e))
    where
      unlike_clear : (s : Bool) → unlike false s ≡ s
      unlike_clear true = refl
      unlike_clear false = refl

-- ---- the laws
whole_zero : whole 0 ≡ fin false 0 (pos 0)
unfolding of_int round
whole_zero = refl

nothing : (c : Float) → T (finite c) → whole 0 ⊗ c ≡ fin (is_neg c) 0 (pos 0)
nothing c u = ap (λ (z : Float). z ⊗ c) whole_zero ∙ zero_times binary64 c u

module _ (v c : Float) (F : T (fits binary64 v)) (h : T (not_minus v)) (u : T (finite c)) where
  pub plus_nothing : v ⊕ whole 0 ⊗ c ≡ v
  plus_nothing = ap (λ (z : Float). v ⊕ z) (nothing c u) ∙ and_zero binary64 v (is_neg c) F h

  pub minus_nothing : v ⊖ whole 0 ⊗ c ≡ v
  unfolding sub neg
  minus_nothing = ap (λ (z : Float). v ⊖ z) (nothing c u) ∙ and_zero binary64 v (not (is_neg c)) F h
