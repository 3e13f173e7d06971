-- A half that lies between two others: its series settles where the upper one's 500th term is below 1e-17 of the lower
-- one's sum, and the upper one's sum is finite. Assumes nothing.
use Rattle.std.specs.Prelude.{◌≡◌, refl, Bool, true, ◌&&◌, ℕ, zero, suc, ◌≤◌, T, Float}
use Rattle.std.proofs.Common.{lit≤}
use Rattle.std.specs.Float.{binary64}
use Rattle.std.specs.Float.Ieee.{round, lt}
use Rattle.std.specs.Float.Ieee.Scale.{finite}
use Rattle.laws.specs.Binary64.{◌⊕◌, ◌⊗◌, ◌⊘◌, whole}
use Rattle.laws.specs.Tests.{both, holds}
use Rattle.math_bessel.specs.Series.{term, least, partial, small, terms_of}
use Rattle.math_bessel.specs.Laws as Laws
use Rattle.laws.specs.Under.{natural, Under, under_same, mul_under, chain, lt_under, natural_finite}
use Rattle.math_settling.specs.Steps.{term_under, partial_under, finite_before, term_finite}

-- the term k and the sum up to it, together
unfoldable pub pair : Float → ℕ → Float × Float
pair h zero = (whole 1, whole 1)
pair h (suc k) = let p = pair h k in let f = h ⊘ whole (suc k) in let t = p.0 ⊗ (f ⊗ f) in (t, p.1 ⊕ t)

pair_term : (h : Float) (k : ℕ) → (pair h k).0 ≡ term h k
unfolding pair term
pair_term h zero = refl
pair_term h (suc k) = rw (pair_term h k)

pair_partial : (h : Float) (k : ℕ) → (pair h k).1 ≡ partial h k
unfolding pair term partial
pair_partial h zero = refl
pair_partial h (suc k) = rw (pair_term h k, pair_partial h k)

-- what is asked of a half's term and sum: the one below c, 1e-17 of the other above c', and it finite
abbrev pub meets : Float → Float → Float × Float → Bool
meets c c' p = (lt p.0 c && lt c' (least ⊗ p.1)) && (finite p.1 && finite (least ⊗ p.1))

-- the same of the 500th term and the sum up to it
pub record Point (c c' b : Float) : Type 0 where
  pub below : lt (term b 500) c ≡ true
  pub above : lt c' (least ⊗ partial b 500) ≡ true
  pub sum : T (finite (partial b 500))
  pub scaled : T (finite (least ⊗ partial b 500))

split : (c c' : Float) (p : Float × Float) → meets c c' p ≡ true → (lt p.0 c ≡ true) × (lt c' (least ⊗ p.1) ≡ true) × (finite p.1 ≡ true) × (finite (least ⊗ p.1) ≡ true)
split c c' p t =
    let x = both (lt p.0 c && lt c' (least ⊗ p.1)) (finite p.1 && finite (least ⊗ p.1)) t in
    let y = both (lt p.0 c) (lt c' (least ⊗ p.1)) x.0 in
    let z = both (finite p.1) (finite (least ⊗ p.1)) x.1 in
    (y.0, y.1, z.0, z.1)

pub point : (c c' b : Float) → meets c c' (pair b 500) ≡ true → Point c c' b
point c c' b t =
    let x = split c c' (pair b 500) t in
    record {
      below = rw (← pair_term b 500) x.0;
      above = rw (← pair_partial b 500) x.1;
      sum = rw (← pair_partial b 500) (holds x.2);
      scaled = rw (← pair_partial b 500) (holds x.3);
    }

least_natural : T (natural least)
unfolding round
least_natural = tt

-- its stopping test is met, and its sum is finite
pub record Settles (h : Float) : Type 0 where
  pub stopped : small h (terms_of h) ≡ true
  pub sum_finite : T (finite (partial h (terms_of h)))

module _ {a h b c₀ c c' : Float} (p : Under a h) (q : Under h b) (n : T (natural c)) (low : Point c₀ c a) (high : Point c c' b) where
  sum_under : (k : ℕ) → k ≤ 500 → Under (partial h k) (partial b k)
  sum_under k l = partial_under q k (finite_before b k 500 l high.sum)

  -- 1e-17 of the sums, from the lower one's up
  last_scaled : Under (least ⊗ partial h 500) (least ⊗ partial b 500)
  last_scaled = mul_under binary64 (under_same least least_natural) (sum_under 500 (lit≤ tt)) high.scaled

  lower_scaled : Under (least ⊗ partial a 500) (least ⊗ partial h 500)
  lower_scaled =
      mul_under binary64 (under_same least least_natural) (partial_under p 500 (natural_finite (partial h 500) (sum_under 500 (lit≤ tt)).lower))
      (natural_finite (least ⊗ partial h 500) last_scaled.lower)

  met : small h 500 ≡ true
  unfolding small
  met = chain (term_under q 500 (term_finite b 499 high.sum)) high.below n (lt_under c n low.above lower_scaled)

  pub settles : Settles h
  settles = record {
    stopped = Laws.met h 500 (lit≤ tt) (lit≤ tt) met;
    sum_finite = natural_finite (partial h (terms_of h)) (sum_under (terms_of h) (Laws.terms_between h).1).lower;
  }
