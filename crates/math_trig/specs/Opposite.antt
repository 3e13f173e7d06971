-- The sines of two arguments that lie as many quarter turns to either side of 0 and leave the same, but for its sign:
-- the test, and that their sines differ in their sign alone where it passes. Assumes nothing.
use Rattle.std.specs.Prelude.{◌≡◌, Bool, true, ◌&&◌, ℕ, zero, suc, ◌+◌, ◌%◌, ◌≤◌, eqb, ℤ, pos, negsuc, Float}
use Rattle.std.proofs.Common.{sym, ap, ◌∙◌, subst, arith}
use Rattle.std.specs.Float.{binary64}
use Rattle.std.specs.Float.Ieee.{neg, le}
use Rattle.laws.specs.Binary64.{◌⊗◌, nested}
use Rattle.laws.specs.Signs.{neg_neg, mul_neg, mul_neg_both}
use Rattle.laws.specs.Floor.{floor_z}
use Rattle.math_numbers.specs.Numbers.{same}
use Rattle.math_round.specs.Whole.{abs_of}
use Rattle.math_trig.specs.Trig.{quarters, modulo4, quadrant, rest, sine_terms, cosine_terms, sine_series, cosine_series, sine_in, limit, sin_of}
use Rattle.math_trig.specs.Laws.{At, sin_at}

-- both within the limit, in quadrants that add up to whole turns, and what is left of y is what is left of x with the
-- other sign
unfoldable pub opposite_of : Float → Float → Bool
opposite_of x y = (le (abs_of x) limit && le (abs_of y) limit) && (eqb ((quadrant x + quadrant y) % 4) 0 && same (rest y) (neg (rest x)))

-- a quadrant is one of four
quadrant_most : (x : Float) → quadrant x ≤ 3
unfolding quadrant
quadrant_most x = go (floor_z (quarters x))
  where
    go : (z : ℤ) → modulo4 z ≤ 3
    go (pos n) = omega arith
    go (negsuc n) = omega arith

pub most : (x : Float) {q : ℕ} → q ≡ quadrant x → q ≤ 3
most x e = subst (λ (k : ℕ). k ≤ 3) (sym e) (quadrant_most x)

sine_neg : (r : Float) → sine_series (neg r) ≡ neg (sine_series r)
unfolding sine_series
sine_neg r = ap (λ (z : Float). neg r ⊗ nested z sine_terms) (mul_neg_both binary64 r r) ∙ mul_neg binary64 r (nested (r ⊗ r) sine_terms)

cosine_neg : (r : Float) → cosine_series (neg r) ≡ cosine_series r
unfolding cosine_series
cosine_neg r = ap (λ (z : Float). nested z cosine_terms) (mul_neg_both binary64 r r)

-- by the quadrant: (0, 0), (1, 3), (2, 2), (3, 1)
by_quadrant : (p q : ℕ) (r : Float) → p ≤ 3 → q ≤ 3 → (p + q) % 4 ≡ 0 → At sine_in q (neg r) ≡ neg (At sine_in p r)
by_quadrant zero q r l m s =
    let e : q ≡ 0 = omega arith in
    ap (λ (k : ℕ). At sine_in k (neg r)) e ∙ sine_neg r
by_quadrant (suc zero) q r l m s =
    let e : q ≡ 3 = omega arith in
    ap (λ (k : ℕ). At sine_in k (neg r)) e ∙ ap neg (cosine_neg r)
by_quadrant (suc (suc zero)) q r l m s =
    let e : q ≡ 2 = omega arith in
    ap (λ (k : ℕ). At sine_in k (neg r)) e ∙ ap neg (sine_neg r)
by_quadrant (suc (suc (suc zero))) q r l m s =
    let e : q ≡ 1 = omega arith in
    ap (λ (k : ℕ). At sine_in k (neg r)) e ∙ cosine_neg r ∙ sym (neg_neg (cosine_series r))
by_quadrant (suc (suc (suc (suc p)))) q r l m s = absurd (omega arith)

-- p, r and q, t are what the reductions of x and y gave
pub opposite : (x y : Float) {p q : ℕ} {r t : Float} → le (abs_of x) limit ≡ true → le (abs_of y) limit ≡ true → p ≡ quadrant x → r ≡ rest x → q ≡ quadrant y → t ≡ rest y
    → (p + q) % 4 ≡ 0 → t ≡ neg r → sin_of y ≡ neg (sin_of x)
opposite x y {p = p} {q = q} {r = r} {t = t} inx iny px rx qy ty s e =
    sym (sin_at y q t iny qy ty) ∙ ap (λ (z : Float). At sine_in q z) e ∙ by_quadrant p q r (most x px) (most y qy) s ∙ ap neg (sin_at x p r inx px rx)
