-- Butterworth filters as sections, five numbers each, one after the other. Definitions only.
--   even order: sections k = 1 .. order/2 of the cookbook with the qualities 1 / (2 cos((2 k − 1) π / (2 order)))
--   odd order: sections k = 1 .. (order − 1)/2 with 1 / (2 cos(k π / order)), and last one of first order, with
--   s = sin w0,  d = 1 + cos w0:  low-pass b = (s, s)/(s + d);  high-pass b = (d, −d)/(s + d);  a1 = (s − d)/(s + d)
use Rattle.std.specs.Prelude.{ℕ, ◌+◌, ◌*◌, ◌/◌, ◌%◌, Bool, true, false, cond, ◌&&◌, List, [], ◌∷◌, eqb, leb, get_or, Float}
use Rattle.std.specs.Float.{nan}
use Rattle.std.specs.Float.Ieee.{neg}
use Rattle.laws.specs.Binary64.{◌⊕◌, ◌⊖◌, ◌⊗◌, ◌⊘◌, whole, pi}
use Rattle.math_trig.specs.Trig.{sin_of, cos_of}
use Rattle.verdict.specs.declared.Refusal.TheVariants.{Plain, Range, Length}
use Rattle.verdict.specs.Outcome.{Outcome}
use Rattle.iir_biquad.specs.Biquad.{centre_taken, w0_of, zeros, biquad_of}
use Rattle.iir_biquad.specs.declared.biquad.Response.{Response}
use Rattle.iir_biquad.specs.declared.biquad.Response.TheVariants.{Lowpass, Highpass, Bandpass, Notch}
use Rattle.verdict.specs.declared.Reason.TheVariants as Reason

-- ---- the judgement
unfoldable pub response_taken : Response → Bool
response_taken Lowpass = true
response_taken Highpass = true
response_taken Bandpass = false
response_taken Notch = false

unfoldable pub order_taken : ℕ → Bool
order_taken order = leb 2 order && leb order 8

-- one for each two poles, and one for the pole that an odd order has left
abbrev pub sections_of : ℕ → ℕ
sections_of order = (order + 1) / 2

-- ---- the sections, counted from 0
-- the angle between the poles of section i and the negative real axis
unfoldable pub angle_of : ℕ → ℕ → Float
angle_of order i = cond (eqb (order % 2) 0) ((whole 2 ⊗ whole (i + 1) ⊖ whole 1) ⊗ pi ⊘ (whole 2 ⊗ whole order)) (whole (i + 1) ⊗ pi ⊘ whole order)

unfoldable pub quality_of : ℕ → ℕ → Float
unfolding angle_of
quality_of order i = whole 1 ⊘ (whole 2 ⊗ cos_of (angle_of order i))

-- the section of first order; b2 and a2, the coefficients two samples back, are 0. A band-pass and a notch, which are
-- refused before, have the zeros of a section that is refused
unfoldable pub first_order_of : Response → Float → Float → List Float
first_order_of Lowpass s d = s ⊘ (s ⊕ d) ∷ s ⊘ (s ⊕ d) ∷ whole 0 ∷ (s ⊖ d) ⊘ (s ⊕ d) ∷ whole 0 ∷ []
first_order_of Highpass s d = d ⊘ (s ⊕ d) ∷ neg (d ⊘ (s ⊕ d)) ∷ whole 0 ∷ (s ⊖ d) ⊘ (s ⊕ d) ∷ whole 0 ∷ []
first_order_of Bandpass s d = zeros
first_order_of Notch s d = zeros

-- the five numbers of section i: of first order where one pole is left after those before it, which have two each
unfoldable pub section_at : Response → ℕ → Float → Float → ℕ → List Float
unfolding quality_of first_order_of
section_at r order cutoff rate i =
    let w0 = w0_of cutoff rate in
    cond (eqb order (2 * i + 1))
    (first_order_of r (sin_of w0) (whole 1 ⊕ cos_of w0))
    (biquad_of r cutoff (quality_of order i) rate).coefs

-- number j of all sections
abbrev pub coef_at : Response → ℕ → Float → Float → ℕ → Float
coef_at r order cutoff rate j = get_or (section_at r order cutoff rate (j / 5)) (j % 5) nan

-- what comes of a ticket with a buffer of len elements; no divisor stands for the whole of it
unfoldable pub butterworth_of : Response → ℕ → Float → Float → ℕ → Outcome
unfolding response_taken order_taken
butterworth_of r order cutoff rate len =
    cond (response_taken r)
    (cond (order_taken order)
    (cond (eqb len (sections_of order * 5))
    (cond (centre_taken cutoff rate)
    (Outcome.Designed len (whole 0) (coef_at r order cutoff rate))
    (Outcome.Refused (Range Reason.Frequency (whole 0) (rate ⊘ whole 2) cutoff)))
    (Outcome.Refused (Length (sections_of order * 5) len)))
    (Outcome.Refused (Plain Reason.Count)))
    (Outcome.Refused (Plain Reason.Code))
