-- How a loop finds where the series stops: at the last term allowed, at one that is small, or one term further. Assumes
-- nothing.
use Rattle.std.specs.Prelude.{ℕ, zero, suc, ◌+◌, ◌-◌, ◌≤◌, ◌<◌, Bool, true, false, ◌&&◌, ◌≡◌, refl, pos, Float}
use Rattle.std.proofs.Common.{true≢false, ◌∙◌, subst, add-one, arith, lit≤}
use Rattle.std.proofs.Math.Path.{ap, sym}
use Rattle.std.specs.Float.{binary64}
use Rattle.std.specs.Float.Ieee.{lt, of_int, round, mul}
use Rattle.std.specs.Float.Ieee.Scale.{finite}
use Rattle.laws.specs.Binary64.{◌⊕◌, ◌⊗◌, ◌⊘◌, whole, fraction}
use Rattle.laws.specs.PowersOfTwo.{by_inverse}
use Rattle.math_bessel.specs.Series.{term, partial, least, small, first_small, terms_of, series_at, series_of}
use Rattle.math_bessel.specs.declared.Series.{Series}

-- one term more
pub term_more : (h : Float) (k : ℕ) → term h k ⊗ ((h ⊘ whole (k + 1)) ⊗ (h ⊘ whole (k + 1))) ≡ term h (k + 1)
unfolding term
term_more h k = rw add-one

pub partial_more : (h : Float) (k : ℕ) → partial h k ⊕ term h (k + 1) ≡ partial h (k + 1)
unfolding partial
partial_more h k = rw add-one

-- ---- with k terms taken, none before the last small: where it stops, looked for from the last one on
unfoldable pub ahead : Float → ℕ → ℕ
ahead h k = first_small h (500 - k) (small h k) k

-- the leading 1 never ends it
pub ahead_start : (h : Float) → ahead h 0 ≡ terms_of h
unfolding ahead terms_of first_small small term partial of_int round mul lt
ahead_start h = refl

pub ahead_last : (h : Float) (k : ℕ) → k ≡ 500 → ahead h k ≡ k
unfolding ahead first_small
ahead_last h k e = ap (λ (d : ℕ). first_small h d (small h k) k) (go k e)
  where
    go : (k : ℕ) → k ≡ 500 → 500 - k ≡ 0
    go k e = omega arith

stop : (h : Float) (d k : ℕ) → first_small h d true k ≡ k
unfolding first_small
stop h zero k = refl
stop h (suc d) k = refl

pub ahead_stop : (h : Float) (k : ℕ) → small h k ≡ true → ahead h k ≡ k
unfolding ahead
ahead_stop h k e = ap (λ (b : Bool). first_small h (500 - k) b k) e ∙ stop h (500 - k) k

pub ahead_more : (h : Float) (k : ℕ) → k < 500 → small h k ≡ false → ahead h k ≡ ahead h (k + 1)
unfolding ahead first_small
ahead_more h k l e =
    ap (λ (b : Bool). first_small h (500 - k) b k) e
    ∙ ap (λ (d : ℕ). first_small h d false k) (go k l)
    ∙ ap (λ (j : ℕ). first_small h (500 - j) (small h j) j) (sym (add-one k))
  where
    go : (k : ℕ) → k < 500 → 500 - k ≡ suc (500 - suc k)
    go k l = omega arith

-- ---- the count is from 1 to 500
from_to : (h : Float) (d : ℕ) (b : Bool) (k : ℕ) → (k ≤ first_small h d b k) × (first_small h d b k ≤ k + d)
unfolding first_small
from_to h zero b k = (omega arith, omega arith)
from_to h (suc d) true k = (omega arith, omega arith)
from_to h (suc d) false k = let r = from_to h d (small h (suc k)) (suc k) in (omega arith, omega arith)

pub terms_between : (h : Float) → (1 ≤ terms_of h) × (terms_of h ≤ 500)
unfolding terms_of
terms_between h = from_to h 499 (small h 1) 1

pub terms_range : (x : Float) → (1 ≤ (series_of x).terms) × ((series_of x).terms ≤ 500)
unfolding series_of series_at
terms_range x = terms_between (x ⊘ whole 2)

-- ---- the stopping test is met at the last term taken exactly where one of the 500 meets it
stops : (h : Float) (d : ℕ) (b : Bool) (k j : ℕ) → small h k ≡ b → j ≤ d → small h (k + j) ≡ true → small h (first_small h d b k) ≡ true
unfolding first_small
stops h zero b k j e l t = subst (λ (i : ℕ). small h i ≡ true) (go k j l) t
  where
    go : (k j : ℕ) → j ≤ 0 → k + j ≡ k
    go k j l = omega arith
stops h (suc d) true k j e l t = e
stops h (suc d) false k zero e l t = absurd (true≢false (sym t ∙ ap (small h) (go k) ∙ e))
  where
    go : (k : ℕ) → k + 0 ≡ k
    go k = omega arith
stops h (suc d) false k (suc j) e l t = stops h d (small h (suc k)) (suc k) j refl (omega arith) (subst (λ (i : ℕ). small h i ≡ true) (go k j) t)
  where
    go : (k j : ℕ) → k + suc j ≡ suc k + j
    go k j = omega arith

pub met : (h : Float) (k : ℕ) → 1 ≤ k → k ≤ 500 → small h k ≡ true → small h (terms_of h) ≡ true
unfolding terms_of
met h k a b t = stops h 499 (small h 1) 1 (k - 1) refl (omega arith) (subst (λ (i : ℕ). small h i ≡ true) (go k a) t)
  where
    go : (k : ℕ) → 1 ≤ k → k ≡ 1 + (k - 1)
    go k a = omega arith

-- ---- the loop: k terms are taken, none before the last small
pub record Going (h t s : Float) (k : ℕ) : Type 0 where
  pub room : k ≤ 500
  pub term_is : t ≡ term h k
  pub sum_is : s ≡ partial h k
  pub still : ahead h k ≡ terms_of h

abbrev pub next_term : Float → Float → Float → Float
next_term h t d = t ⊗ ((h ⊘ d) ⊗ (h ⊘ d))

-- what is told of n terms, the last of which is t, and their sum
abbrev pub stopped_of : Float → Float → ℕ → Series
stopped_of t s n = record { sum = s; terms = n; settled = lt t (least ⊗ s) && finite s }

pub start : (h : Float) → Going h (whole 1) (whole 1) 0
unfolding term partial
start h = record { room = lit≤ tt; term_is = refl; sum_is = refl; still = ahead_start h }

module _ {h t s : Float} {k : ℕ} (g : Going h t s k) where
  ends : lt t (least ⊗ s) ≡ small h k
  unfolding small
  ends = ap (λ (z : Float). lt z (least ⊗ s)) g.term_is ∙ ap (λ (z : Float). lt (term h k) (least ⊗ z)) g.sum_is

  -- where it stops, what the loop has is the series, and its last term and sum tell whether that has settled
  done : ahead h k ≡ k → stopped_of t s k ≡ series_at h
  unfolding series_at
  done e =
      let n : k ≡ terms_of h = sym e ∙ g.still in
      ap (λ (b : Bool). record { sum = s; terms = k; settled = b && finite s }) ends
      ∙ ap (λ (z : Float). record { sum = z; terms = k; settled = small h k && finite z }) g.sum_is
      ∙ ap (λ (j : ℕ). record { sum = partial h j; terms = j; settled = small h j && finite (partial h j) }) n

  pub at_last : 500 ≤ k → stopped_of t s 500 ≡ series_at h
  at_last l =
      let e : k ≡ 500 = omega (arith, g.room) in
      ap (λ (j : ℕ). stopped_of t s j) (sym e) ∙ done (ahead_last h k e)

  pub at_small : lt t (least ⊗ s) ≡ true → stopped_of t s k ≡ series_at h
  at_small e = done (ahead_stop h k (sym ends ∙ e))

  -- one term more, whose number is d
  module _ {d : Float} (e : d ≡ whole (k + 1)) where
    next_term_lem : next_term h t d ≡ term h (k + 1)
    next_term_lem = rw (e, g.term_is) (term_more h k)

    pub again : k < 500 → lt t (least ⊗ s) ≡ false → Going h (next_term h t d) (s ⊕ next_term h t d) (k + 1)
    again l f =
        record {
          room = omega arith;
          term_is = next_term_lem;
          sum_is = ap (λ (z : Float). z ⊕ next_term h t d) g.sum_is ∙ ap (λ (z : Float). partial h k ⊕ z) next_term_lem ∙ partial_more h k;
          still = sym (ahead_more h k l (sym ends ∙ f)) ∙ g.still;
        }

-- ---- the code halves by a product
abbrev pub half_of : Float → Float
half_of x = x ⊗ fraction 1 2

half_is : (x : Float) → half_of x ≡ x ⊘ whole 2
unfolding of_int round
half_is x = by_inverse binary64 x (pos 1)

pub series_is : (x : Float) {r : Series} → r ≡ series_at (half_of x) → r ≡ series_of x
unfolding series_of
series_is x e = e ∙ ap series_at (half_is x)

pub sum_is : (x : Float) {r : Series} → r ≡ series_at (half_of x) → r.sum ≡ (series_of x).sum
sum_is x e = ap (λ (r : Series). r.sum) (series_is x e)
