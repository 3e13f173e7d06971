-- The terms and the sums of the series grow with the half that they are taken at, as far as they are finite. Assumes
-- nothing.
use Rattle.std.specs.Prelude.{◌≡◌, T, Float}
use Rattle.std.proofs.Common.{subst, arith}
use Prim.Native.Nat.{ℕ, zero, suc, ◌+◌, ◌-◌, ◌≤◌}
use Rattle.std.specs.Float.Ieee.{binary64, of_int, round}
use Rattle.std.specs.Float.Ieee.Scale.{finite}
use Rattle.laws.specs.Binary64.{◌⊗◌, ◌⊘◌, whole}
use Rattle.laws.specs.Operations.{add_finite, mul_finite}
use Rattle.math_bessel.specs.Series.{term, partial}
use Rattle.laws.specs.Under.{natural, plain, Under, under_same, round_plain, mul_under, add_under, div_under}

pub whole_plain : (n : ℕ) → T (plain (whole n))
unfolding of_int
whole_plain n = round_plain binary64 n 1

pub one_natural : T (natural (whole 1))
unfolding of_int round
one_natural = tt

module _ {h H : Float} (p : Under h H) where
  part_under : (k : ℕ) → T (finite (H ⊘ whole k)) → Under (h ⊘ whole k) (H ⊘ whole k)
  part_under k u = div_under binary64 (whole k) (whole_plain k) p u

  pub term_under : (k : ℕ) → T (finite (term H k)) → Under (term h k) (term H k)
  unfolding term
  term_under zero u = under_same (whole 1) one_natural
  term_under (suc k) u =
      let f = H ⊘ whole (suc k) in
      let v = mul_finite binary64 (term H k) (f ⊗ f) u in
      let w = part_under (suc k) (mul_finite binary64 f f v.1).0 in
      mul_under binary64 (term_under k v.0) (mul_under binary64 w w v.1) u

  pub partial_under : (k : ℕ) → T (finite (partial H k)) → Under (partial h k) (partial H k)
  unfolding partial
  partial_under zero u = under_same (whole 1) one_natural
  partial_under (suc k) u =
      let v = add_finite binary64 (partial H k) (term H (suc k)) u in
      add_under binary64 (partial_under k v.0) (term_under (suc k) v.1) u

-- a sum that is finite was so before
earlier : (h : Float) (d k : ℕ) → T (finite (partial h (d + k))) → T (finite (partial h k))
unfolding partial
earlier h zero k u = subst (λ (j : ℕ). T (finite (partial h j))) (go k) u
  where
    go : (k : ℕ) → zero + k ≡ k
    go k = omega arith
earlier h (suc d) k u =
    earlier h d k (add_finite binary64 (partial h (d + k)) (term h (suc (d + k))) (subst (λ (j : ℕ). T (finite (partial h j))) (go d k) u)).0
  where
    go : (d k : ℕ) → suc d + k ≡ suc (d + k)
    go d k = omega arith

pub finite_before : (h : Float) (k n : ℕ) → k ≤ n → T (finite (partial h n)) → T (finite (partial h k))
finite_before h k n l u = earlier h (n - k) k (subst (λ (j : ℕ). T (finite (partial h j))) (go k n l) u)
  where
    go : (k n : ℕ) → k ≤ n → n ≡ n - k + k
    go k n l = omega arith

pub term_finite : (h : Float) (k : ℕ) → T (finite (partial h (suc k))) → T (finite (term h (suc k)))
unfolding partial
term_finite h k u = (add_finite binary64 (partial h k) (term h (suc k)) u).1
