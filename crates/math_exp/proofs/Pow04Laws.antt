-- How a loop takes the steps of the power 0.4: none is left, one is not smaller, or one is taken. Assumes nothing.
use Rattle.std.proofs.Common.{◌≡◌, ℕ, zero, suc, ◌+◌, ◌-◌, ◌<◌, ◌≤◌, Bool, true, false, ◌&&◌, sym, refl, ap, ◌∙◌, arith}
use lib.Ieee.{Float, nan, lt, le, eq}
use Rattle.laws.specs.Binary64.{◌⊗◌, whole}
use Rattle.math_exp.specs.Pow04.{step, steps_from, steps, pow04_of}

-- after k steps of d
pub none_left : (k d : ℕ) (w y : Float) → d ≤ k → steps (d - k) w y ≡ y
unfolding steps steps_from
none_left k d w y e = ap (λ (j : ℕ). steps j w y) (over k d e)
  where
    over : (k d : ℕ) → d ≤ k → d - k ≡ 0
    over k d e = omega arith

pub not_smaller : (d : ℕ) (w y : Float) → lt (step w y) y ≡ false → steps d w y ≡ y
unfolding steps steps_from
not_smaller zero w y h = refl
not_smaller (suc d) w y h = ap (λ (b : Bool). steps_from (suc d) b w y (step w y)) h

pub smaller : (k d : ℕ) (w y : Float) → k < d → lt (step w y) y ≡ true → steps (d - (k + 1)) w (step w y) ≡ steps (d - k) w y
unfolding steps steps_from
smaller k d w y l h =
    sym (ap (λ (j : ℕ). steps j w y) (before k d l) ∙ ap (λ (b : Bool). steps_from (suc (d - (k + 1))) b w y (step w y)) h)
  where
    before : (k d : ℕ) → k < d → d - k ≡ suc (d - (k + 1))
    before k d l = omega arith

-- ---- the range
module _ (v : Float) where
  pub at_zero : le (whole 0) v ≡ true → le v (whole 29) ≡ true → eq v (whole 0) ≡ true → whole 0 ≡ pow04_of v
  unfolding pow04_of
  at_zero a b c = sym (rw (a, b, c))

  pub inside : le (whole 0) v ≡ true → le v (whole 29) ≡ true → eq v (whole 0) ≡ false → steps 100 (v ⊗ v) (whole 4) ≡ pow04_of v
  unfolding pow04_of
  inside a b c = sym (rw (a, b, c))

  pub outside : le (whole 0) v && le v (whole 29) ≡ false → nan ≡ pow04_of v
  unfolding pow04_of
  outside a = sym (rw a)
