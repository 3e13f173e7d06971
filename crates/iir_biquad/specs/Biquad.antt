-- One second-order section of the Audio EQ Cookbook (R. Bristow-Johnson), divided by a0. Definitions only.
--   w0 = 2 π f0/fs,  c = cos w0,  alpha = sin w0 / (2 q);  a = (1 + alpha, −2 c, 1 − alpha)
--   low-pass b = ((1 − c)/2, 1 − c, (1 − c)/2);  high-pass ((1 + c)/2, −(1 + c), (1 + c)/2);  band-pass (alpha, 0,
--   −alpha);  notch (1, −2 c, 1)
use Rattle.std.specs.Prelude.{Bool, false, cond, ◌&&◌, List, [], ◌∷◌, Float, Err, Ok}
use Rattle.std.specs.Float.{inf}
use Rattle.std.specs.Float.Ieee.{neg, lt}
use Rattle.std.specs.Float.Ieee.Scale.{finite}
use Rattle.laws.specs.Binary64.{◌⊕◌, ◌⊖◌, ◌⊗◌, ◌⊘◌, whole, pi}
use Rattle.math_trig.specs.Trig.{sin_of, cos_of}
use Rattle.verdict.specs.declared.Refusal.TheVariants.{Range}
use Rattle.iir_biquad.specs.declared.biquad.Response.{Response}
use Rattle.iir_biquad.specs.declared.biquad.Response.TheVariants.{Lowpass, Highpass, Bandpass, Notch}
use Rattle.iir_biquad.specs.declared.biquad.Biquad.{Biquad}
use Rattle.verdict.specs.declared.Reason.TheVariants as Reason

-- ---- the judgement
unfoldable pub centre_taken : Float → Float → Bool
centre_taken centre rate = lt (whole 0) centre && (lt centre (rate ⊘ whole 2) && finite rate)

unfoldable pub quality_taken : Float → Bool
quality_taken q = lt (whole 0) q && finite q

-- ---- the section
-- w0
abbrev pub w0_of : Float → Float → Float
w0_of centre rate = whole 2 ⊗ pi ⊗ centre ⊘ rate

-- b0, b1, b2 before the division
abbrev pub numerator : Response → Float → Float → List Float
numerator Lowpass c alpha = (whole 1 ⊖ c) ⊘ whole 2 ∷ (whole 1 ⊖ c) ∷ (whole 1 ⊖ c) ⊘ whole 2 ∷ []
numerator Highpass c alpha = (whole 1 ⊕ c) ⊘ whole 2 ∷ neg (whole 1 ⊕ c) ∷ (whole 1 ⊕ c) ⊘ whole 2 ∷ []
numerator Bandpass c alpha = alpha ∷ whole 0 ∷ neg alpha ∷ []
numerator Notch c alpha = whole 1 ∷ neg (whole 2) ⊗ c ∷ whole 1 ∷ []

-- each divided by d
abbrev pub over : List Float → Float → List Float
over [] d = []
over (x ∷ xs) d = x ⊘ d ∷ over xs d

abbrev pub joined : List Float → List Float → List Float
joined [] ys = ys
joined (x ∷ xs) ys = x ∷ joined xs ys

unfoldable pub section_of : Response → Float → Float → List Float
section_of r c alpha = over (joined (numerator r c alpha) (neg (whole 2) ⊗ c ∷ (whole 1 ⊖ alpha) ∷ [])) (whole 1 ⊕ alpha)

-- the numbers of a section that is refused
abbrev pub zeros : List Float
zeros = whole 0 ∷ whole 0 ∷ whole 0 ∷ whole 0 ∷ whole 0 ∷ []

unfoldable pub biquad_of : Response → Float → Float → Float → Biquad
unfolding centre_taken quality_taken section_of
biquad_of r centre q rate =
    let w0 = w0_of centre rate in
    cond (centre_taken centre rate)
    (cond (quality_taken q)
    (record { coefs = section_of r (cos_of w0) (sin_of w0 ⊘ (whole 2 ⊗ q)); verdict = Ok tt })
    (record { coefs = zeros; verdict = Err (Range Reason.Shape (whole 0) (inf false) q) }))
    (record { coefs = zeros; verdict = Err (Range Reason.Frequency (whole 0) (rate ⊘ whole 2) centre) })
