-- Even orders have what they had before odd ones were taken: the definition that even orders had alone, and that every
-- order but 3, 5 and 7 still has its answer, its count and each of its numbers. Assumes nothing.
use Rattle.std.specs.Prelude.{ℕ, ◌+◌, ◌*◌, ◌/◌, ◌%◌, ◌≤◌, ◌≡◌, refl, Bool, true, false, cond, ◌&&◌, eqb, leb, get_or, Float}
use Rattle.std.proofs.Common.{ap, arith, leb-true, eq-eqb, ne_eqb}
use Rattle.std.proofs.Math.Path.{fun_ext}
use Rattle.std.specs.Float.{nan}
use Rattle.laws.specs.Binary64.{◌⊖◌, ◌⊗◌, ◌⊘◌, whole, pi}
use Rattle.math_trig.specs.Trig.{cos_of}
use Rattle.verdict.specs.declared.Refusal.TheVariants.{Plain, Range, Length}
use Rattle.verdict.specs.Outcome.{Outcome}
use Rattle.iir_biquad.specs.Biquad.{centre_taken, biquad_of}
use Rattle.iir_biquad.specs.declared.biquad.Response.{Response}
use Rattle.iir_butterworth.specs.Butterworth.{response_taken, order_taken, sections_of, angle_of, quality_of, section_at, coef_at, butterworth_of}
use Rattle.verdict.specs.declared.Reason.TheVariants as Reason

-- ---- even orders alone: order/2 sections, section k = 1 .. with the quality 1 / (2 cos((2 k − 1) π / (2 order)))
abbrev even_taken : ℕ → Bool
even_taken order = leb 2 order && (leb order 8 && eqb (order % 2) 0)

abbrev even_quality : ℕ → ℕ → Float
even_quality order i = whole 1 ⊘ (whole 2 ⊗ cos_of ((whole 2 ⊗ whole (i + 1) ⊖ whole 1) ⊗ pi ⊘ (whole 2 ⊗ whole order)))

abbrev even_at : Response → ℕ → Float → Float → ℕ → Float
even_at r order cutoff rate j = get_or (biquad_of r cutoff (even_quality order (j / 5)) rate).coefs (j % 5) nan

unfoldable pub even_of : Response → ℕ → Float → Float → ℕ → Outcome
even_of r order cutoff rate len =
    cond (response_taken r)
    (cond (even_taken order)
    (cond (eqb len (order / 2 * 5))
    (cond (centre_taken cutoff rate)
    (Outcome.Designed len (whole 0) (even_at r order cutoff rate))
    (Outcome.Refused (Range Reason.Frequency (whole 0) (rate ⊘ whole 2) cutoff)))
    (Outcome.Refused (Length (order / 2 * 5) len)))
    (Outcome.Refused (Plain Reason.Count)))
    (Outcome.Refused (Plain Reason.Code))

-- ---- an even order has these numbers, each of them
even_numbers : (r : Response) (order : ℕ) (cutoff rate : Float) → order % 2 ≡ 0 → coef_at r order cutoff rate ≡ even_at r order cutoff rate
unfolding section_at quality_of angle_of
even_numbers r order cutoff rate e = fun_ext (λ j. rw (ne_eqb order (2 * (j / 5) + 1) (λ q. omega arith), eq-eqb (order % 2) 0 e))

-- ---- and every order but 3, 5 and 7 what came of it
pub others_kept : (r : Response) (order : ℕ) (cutoff rate : Float) (len : ℕ) → (order ≡ 3 → ⊥) → (order ≡ 5 → ⊥) → (order ≡ 7 → ⊥) → butterworth_of r order cutoff rate len ≡ even_of r order cutoff rate len
unfolding butterworth_of even_of order_taken
others_kept r order cutoff rate len not3 not5 not7 = go (leb 2 order) (leb order 8) (leb-true 2 order) (leb-true order 8)
  where
    -- what comes of an order that is taken or not, with n numbers
    by : Bool → ℕ → (ℕ → Float) → Outcome
    by taken n numbers = cond (response_taken r) (cond taken (cond (eqb len n) (cond (centre_taken cutoff rate) (Outcome.Designed len (whole 0) numbers) (Outcome.Refused (Range Reason.Frequency (whole 0) (rate ⊘ whole 2) cutoff))) (Outcome.Refused (Length n len))) (Outcome.Refused (Plain Reason.Count))) (Outcome.Refused (Plain Reason.Code))

    go : (a b : Bool) → (a ≡ true → 2 ≤ order) → (b ≡ true → order ≤ 8) → by (a && b) (sections_of order * 5) (coef_at r order cutoff rate) ≡ by (a && (b && eqb (order % 2) 0)) (order / 2 * 5) (even_at r order cutoff rate)
    go true true least most =
        let l = least refl in
        let m = most refl in
        let e : order % 2 ≡ 0 = omega arith in
        let n : sections_of order ≡ order / 2 = omega arith in
        rw (eq-eqb (order % 2) 0 e, n) (ap (by true (order / 2 * 5)) (even_numbers r order cutoff rate e))
    go true false least most = refl
    go false b least most = refl

pub even_kept : (r : Response) (order : ℕ) (cutoff rate : Float) (len : ℕ) → order % 2 ≡ 0 → butterworth_of r order cutoff rate len ≡ even_of r order cutoff rate len
even_kept r order cutoff rate len e = others_kept r order cutoff rate len (λ q. omega arith) (λ q. omega arith) (λ q. omega arith)
