-- What signs do in products and quotients: rounding looks at the size alone. Assumes nothing.
use Rattle.std.specs.Prelude.{◌≡◌, refl, Bool, true, false, not, cond, ℕ, zero, suc, ◌+◌, ◌*◌, ◌^◌, ltb, eqb, pos, Float}
use Rattle.std.proofs.Common.{sym, ap, ◌∙◌}
use Rattle.std.specs.Float.{nan, inf, fin, Format}
use Rattle.std.specs.Float.Ieee.{prec, emax, low, odd, units, round, neg, mul, div, unlike, up, down}

pub neg_neg : (x : Float) → neg (neg x) ≡ x
unfolding neg
neg_neg nan = refl
neg_neg (inf true) = refl
neg_neg (inf false) = refl
neg_neg (fin true m e) = refl
neg_neg (fin false m e) = refl

-- ---- a rounded fraction
odd_neg : (d q k l : ℕ) → odd d true q k l ≡ neg (odd d false q k l)
unfolding odd neg
odd_neg d zero k l = refl
odd_neg d (suc q) k l = refl

units_neg : (f : Format) (q k : ℕ) → units f true q k ≡ neg (units f false q k)
unfolding units neg
units_neg f q k = go (ltb (q * 2 ^ k) (2 ^ (low f + suc (emax f))))
  where
    go : (b : Bool) → cond b (odd (suc (prec f)) true q k (low f)) (inf true) ≡ neg (cond b (odd (suc (prec f)) false q k (low f)) (inf false))
    go true = odd_neg (suc (prec f)) q k (low f)
    go false = refl

round_neg : (f : Format) (s : Bool) (a b : ℕ) → round f (not s) a b ≡ neg (round f s a b)
unfolding round
round_neg f false a b = units_neg f _ _
round_neg f true a b = sym (ap neg (units_neg f _ _) ∙ neg_neg _)

-- ---- the sign of a product or a quotient
unlike_not : (s t : Bool) → unlike (not s) t ≡ not (unlike s t)
unlike_not true true = refl
unlike_not true false = refl
unlike_not false true = refl
unlike_not false false = refl

unlike_both : (s t : Bool) → unlike (not s) (not t) ≡ unlike s t
unlike_both true true = refl
unlike_both true false = refl
unlike_both false true = refl
unlike_both false false = refl

infinite_neg : (b s : Bool) → cond b nan (inf (not s)) ≡ neg (cond b nan (inf s))
unfolding neg
infinite_neg true s = refl
infinite_neg false s = refl

-- one factor
pub mul_neg : (f : Format) (x y : Float) → mul f (neg x) y ≡ neg (mul f x y)
unfolding mul neg
mul_neg f nan y = refl
mul_neg f (inf s) nan = refl
mul_neg f (inf s) (inf t) = ap inf (unlike_not s t)
mul_neg f (inf s) (fin t n d) = ap (λ (u : Bool). cond (eqb n 0) nan (inf u)) (unlike_not s t) ∙ infinite_neg (eqb n 0) (unlike s t)
mul_neg f (fin s m e) nan = refl
mul_neg f (fin s m e) (inf t) = ap (λ (u : Bool). cond (eqb m 0) nan (inf u)) (unlike_not s t) ∙ infinite_neg (eqb m 0) (unlike s t)
mul_neg f (fin s m e) (fin t n d) = ap (λ (u : Bool). round f u (m * up e * (n * up d)) (down e * down d)) (unlike_not s t) ∙ round_neg f (unlike s t) _ _

-- both factors
pub mul_neg_both : (f : Format) (x y : Float) → mul f (neg x) (neg y) ≡ mul f x y
unfolding mul neg
mul_neg_both f nan y = refl
mul_neg_both f (inf s) nan = refl
mul_neg_both f (inf s) (inf t) = ap inf (unlike_both s t)
mul_neg_both f (inf s) (fin t n d) = ap (λ (u : Bool). cond (eqb n 0) nan (inf u)) (unlike_both s t)
mul_neg_both f (fin s m e) nan = refl
mul_neg_both f (fin s m e) (inf t) = ap (λ (u : Bool). cond (eqb m 0) nan (inf u)) (unlike_both s t)
mul_neg_both f (fin s m e) (fin t n d) = ap (λ (u : Bool). round f u (m * up e * (n * up d)) (down e * down d)) (unlike_both s t)

-- the dividend
pub div_neg : (f : Format) (x y : Float) → div f (neg x) y ≡ neg (div f x y)
unfolding div neg
div_neg f nan y = refl
div_neg f (inf s) nan = refl
div_neg f (inf s) (inf t) = refl
div_neg f (inf s) (fin t n d) = ap inf (unlike_not s t)
div_neg f (fin s m e) nan = refl
div_neg f (fin s m e) (inf t) = ap (λ (u : Bool). fin u 0 (pos 0)) (unlike_not s t)
div_neg f (fin s m e) (fin t n d) =
    ap (λ (u : Bool). cond (eqb n 0) (cond (eqb m 0) nan (inf u)) (round f u (m * up e * down d) (n * up d * down e))) (unlike_not s t)
    ∙ go (eqb n 0) (eqb m 0) (unlike s t) (m * up e * down d) (n * up d * down e)
  where
    go : (v w u : Bool) (a b : ℕ) → cond v (cond w nan (inf (not u))) (round f (not u) a b) ≡ neg (cond v (cond w nan (inf u)) (round f u a b))
    go true w u a b = infinite_neg w u
    go false w u a b = round_neg f u a b

-- dividend and divisor
pub div_neg_both : (f : Format) (x y : Float) → div f (neg x) (neg y) ≡ div f x y
unfolding div neg
div_neg_both f nan y = refl
div_neg_both f (inf s) nan = refl
div_neg_both f (inf s) (inf t) = refl
div_neg_both f (inf s) (fin t n d) = ap inf (unlike_both s t)
div_neg_both f (fin s m e) nan = refl
div_neg_both f (fin s m e) (inf t) = ap (λ (u : Bool). fin u 0 (pos 0)) (unlike_both s t)
div_neg_both f (fin s m e) (fin t n d) = ap (λ (u : Bool). cond (eqb n 0) (cond (eqb m 0) nan (inf u)) (round f u (m * up e * down d) (n * up d * down e))) (unlike_both s t)
