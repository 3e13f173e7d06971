-- The cosine of an argument up to 2^25 in size is finite. Each step of it is a power of two at most, the last 2^943.
-- Assumes nothing.
use Rattle.std.specs.Prelude.{◌≡◌, refl, Bool, false, List, [], ◌∷◌, ℕ, zero, suc, ◌+◌, ◌*◌, ◌^◌, ◌≤◌, ◌<◌, T, Float}
use Rattle.std.proofs.Common.{subst, le_trans, le_of_eq, lt_of_le_of_lt, one-mul, pow-suc, mul-le-mul_right, arith, lit≤, pow-add, pow_mono}
use Rattle.std.proofs.Math.Pow.{pow-lt}
use Rattle.std.specs.Float.{nan, inf, fin, Format}
use Rattle.std.specs.Float.Ieee.{binary64, prec, emax, low, up, down, neg, round, add, sub, mul, div, of_int, le}
use Rattle.std.specs.Float.Ieee.Bits.{is_true}
use Rattle.std.specs.Float.Ieee.Fits.{two, two-le_pos}
use Rattle.std.specs.Float.Ieee.Exact.{HasValue, round_exact}
use Rattle.std.specs.Float.Ieee.Scale.{finite}
use Rattle.laws.specs.AtMost.{AtMost, at_most_finite, of_le, mul_at_most, add_at_most}
use Rattle.laws.specs.Binary64.{◌⊖◌, ◌⊗◌, nested, over, fact}
use Rattle.math_round.specs.Whole.{abs_of}
use Rattle.math_trig.specs.Trig.{P1, P2, P3, P4, quarters, quadrant, rest, sine_terms, cosine_terms, sine_series, cosine_series, cosine_in, limit, cos_of}
use Rattle.math_trig.specs.Laws.{quarters_small, cos_at}

-- ---- powers of two as bounds
-- x is 2 ^ k at most in size
abbrev Below : Float → ℕ → Type 0
Below x k = AtMost x (2 ^ k) 1

-- the format holds the power itself
power_held : (f : Format) (k : ℕ) → k ≤ emax f → HasValue (round f false (2 ^ k) 1) false (2 ^ k) 1
power_held f k h =
    let e = low f + k in
    let digits : 1 < 2 ^ prec f = pow-lt (two-le_pos (prec f) (two f)) in
    let top : 2 ^ e < 2 ^ (low f + suc (emax f)) = pow-lt (omega arith) in
    round_exact f false (2 ^ k) 1 1 e (lit≤ tt) digits (lt_of_le_of_lt (le_of_eq (one-mul (2 ^ e))) top)
    (shifted k (low f))
  where
    shifted : (k l : ℕ) → 2 ^ k * 2 ^ l ≡ 1 * 2 ^ (l + k) * 1
    shifted k l = let e : 2 ^ (l + k) ≡ 2 ^ l * 2 ^ k = pow-add 2 l k in omega arith

mul_below : (f : Format) (x y : Float) (i j : ℕ) → i + j ≤ emax f → Below x i → Below y j → Below (mul f x y) (i + j)
mul_below f x y i j h a b =
    mul_at_most f x y (2 ^ i) 1 (2 ^ j) 1 (2 ^ (i + j)) 1 (lit≤ tt) (lit≤ tt) (power_held f (i + j) h) (exact i j) a b
  where
    exact : (i j : ℕ) → 2 ^ i * 2 ^ j * 1 ≤ 2 ^ (i + j) * (1 * 1)
    exact i j = let e : 2 ^ (i + j) ≡ 2 ^ i * 2 ^ j = pow-add 2 i j in omega arith

-- two of the same bound
add_below : (f : Format) (x y : Float) (k : ℕ) → suc k ≤ emax f → Below x k → Below y k → Below (add f x y) (suc k)
add_below f x y k h a b =
    add_at_most f x y (2 ^ k) 1 (2 ^ k) 1 (2 ^ suc k) 1 (lit≤ tt) (lit≤ tt) (lit≤ tt) (power_held f (suc k) h)
    (doubled k) a b
  where
    doubled : (k : ℕ) → (2 ^ k * 1 + 2 ^ k * 1) * 1 ≤ 2 ^ suc k * (1 * 1)
    doubled k = let e : 2 ^ suc k ≡ 2 ^ k * 2 = pow-suc 2 k in omega arith

neg_below : (x : Float) (k : ℕ) → Below x k → Below (neg x) k
unfolding neg
neg_below nan k h = h
neg_below (inf s) k h = h
neg_below (fin s m e) k h = h

sub_below : (f : Format) (x y : Float) (k : ℕ) → suc k ≤ emax f → Below x k → Below y k → Below (sub f x y) (suc k)
unfolding sub
sub_below f x y k h a b = add_below f x (neg y) k h a (neg_below y k b)

-- a greater bound
weaken : (x : Float) (i j : ℕ) → i ≤ j → Below x i → Below x j
weaken nan i j h a = a
weaken (inf s) i j h a = a
weaken (fin s m e) i j h a = le_trans a (mul-le-mul_right (down e) (pow_mono h))

-- ---- the series
-- coefficients that are 1 at most in size
abbrev Coefficients : List Float → Type 0
Coefficients [] = Unit {0}
Coefficients (c ∷ cs) = Below c 0 × Coefficients cs

-- a step of the series: one product with what is 2 ^ k at most, and one addition
abbrev steps : ℕ → List Float → ℕ
steps k [] = 0
steps k (c ∷ []) = 0
steps k (c ∷ d ∷ ds) = suc (k + steps k (d ∷ ds))

nested_below : (z : Float) (k : ℕ) → Below z k → (cs : List Float) → Coefficients cs → steps k cs ≤ 1023
    → Below (nested z cs) (steps k cs)
unfolding nested of_int round
nested_below z k a [] b h = lit≤ tt
nested_below z k a (c ∷ []) b h = b.0
nested_below z k a (c ∷ d ∷ ds) b h =
    let n = steps k (d ∷ ds) in
    let r : Below (nested z (d ∷ ds)) n = nested_below z k a (d ∷ ds) b.1 (omega arith) in
    let p : Below (z ⊗ nested z (d ∷ ds)) (k + n) = mul_below binary64 z (nested z (d ∷ ds)) k n (omega arith) a r in
    add_below binary64 c (z ⊗ nested z (d ∷ ds)) (k + n) h (weaken c 0 (k + n) (omega arith) b.0) p

sine_terms_lem : Coefficients sine_terms
unfolding sine_terms over fact div neg of_int round
sine_terms_lem = (lit≤ tt, (lit≤ tt, (lit≤ tt, (lit≤ tt, (lit≤ tt, (lit≤ tt, (lit≤ tt, (lit≤ tt, (lit≤ tt, tt)))))))))

cosine_terms_lem : Coefficients cosine_terms
unfolding cosine_terms over fact div neg of_int round
cosine_terms_lem = (lit≤ tt, (lit≤ tt, (lit≤ tt, (lit≤ tt, (lit≤ tt, (lit≤ tt, (lit≤ tt, (lit≤ tt, (lit≤ tt, tt)))))))))

module _ (r : Float) (h : Below r 55) where
  square_below : Below (r ⊗ r) 110
  square_below = mul_below binary64 r r 55 55 (lit≤ tt) h h

  sine_below : Below (sine_series r) 943
  unfolding sine_series sine_terms
  sine_below =
      mul_below binary64 r (nested (r ⊗ r) sine_terms) 55 888 (lit≤ tt) h
      (nested_below (r ⊗ r) 110 square_below sine_terms sine_terms_lem (lit≤ tt))

  cosine_below : Below (cosine_series r) 888
  unfolding cosine_series cosine_terms
  cosine_below = nested_below (r ⊗ r) 110 square_below cosine_terms cosine_terms_lem (lit≤ tt)

-- ---- the argument, its quarter turns and what is left of it
inside : (x : Float) → T (le (abs_of x) limit) → Below x 25
unfolding abs_of le of_int
inside nan t = absurd t
inside (inf s) t = absurd t
inside (fin s m e) t = of_le (fin false m e) limit (m * up e) (down e) 33554432 1 (refl, refl) limit_value t
  where
    limit_value : HasValue limit false 33554432 1
    limit_value = (refl, refl)

of_value : (x : Float) (s : Bool) (n k : ℕ) → HasValue x s n 1 → n ≤ 2 ^ k → Below x k
of_value nan s n k v h = v
of_value (inf t) s n k v h = v
of_value (fin t m e) s n k v h = le_trans (le_of_eq v.1) (mul-le-mul_right (down e) h)

module _ (x : Float) (t : T (le (abs_of x) limit)) where
  quarters_below : Below (quarters x) 50
  quarters_below = let q = quarters_small x t in of_value (quarters x) q.s q.n 50 q.value q.small

  -- one of the four parts of π/2, each 2 at most, taken from y
  less_part : (y p : Float) (k : ℕ) → 51 ≤ k → k ≤ 1022 → Below p 1 → Below y k → Below (y ⊖ quarters x ⊗ p) (suc k)
  less_part y p k l u a h =
      sub_below binary64 y (quarters x ⊗ p) k (omega arith) h
      (weaken (quarters x ⊗ p) 51 k l (mul_below binary64 (quarters x) p 50 1 (lit≤ tt) quarters_below a))

  rest_below : Below (rest x) 55
  unfolding rest P1 P2 P3 P4 round
  rest_below =
      less_part _ P4 54 (lit≤ tt) (lit≤ tt) (lit≤ tt)
      (less_part _ P3 53 (lit≤ tt) (lit≤ tt) (lit≤ tt)
      (less_part _ P2 52 (lit≤ tt) (lit≤ tt) (lit≤ tt)
      (less_part x P1 51 (lit≤ tt) (lit≤ tt) (lit≤ tt) (weaken x 25 51 (lit≤ tt) (inside x t)))))

-- ---- the law
neg_finite : (x : Float) → T (finite x) → T (finite (neg x))
unfolding neg
neg_finite nan h = h
neg_finite (inf s) h = h
neg_finite (fin s m e) h = tt

in_table : (q : ℕ) (s c : Float) → T (finite s) → T (finite c) → T (finite (cosine_in q s c))
in_table zero s c h k = k
in_table (suc zero) s c h k = neg_finite s h
in_table (suc (suc zero)) s c h k = neg_finite c k
in_table (suc (suc (suc q))) s c h k = h

pub cos_finite : (x : Float) → T (le (abs_of x) limit) → T (finite (cos_of x))
cos_finite x t =
    let r = rest x in
    let h = rest_below x t in
    let s = at_most_finite (sine_series r) (2 ^ 943) 1 (sine_below r h) in
    let c = at_most_finite (cosine_series r) (2 ^ 888) 1 (cosine_below r h) in
    subst (λ (z : Float). T (finite z)) (cos_at x (quadrant x) r (is_true (le (abs_of x) limit) t) refl refl)
    (in_table (quadrant x) (sine_series r) (cosine_series r) s c)
