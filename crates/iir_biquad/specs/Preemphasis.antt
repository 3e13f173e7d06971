-- First-order pre-emphasis: no paper outside the Rust has it, so the formula is the Rust's. Definitions only.
--   H(s) = (1 + s tau)/(1 + s tau_p), tau_p = 1/(2 π (fs/2.4)), by the bilinear transform with K = 2 fs:
--   b0 = (1 + K tau)/(1 + K tau_p),  b1 = (1 − K tau)/(1 + K tau_p),  a1 = (1 − K tau_p)/(1 + K tau_p)
use Rattle.std.specs.Prelude.{Bool, false, cond, ◌&&◌, List, [], ◌∷◌, Float, Err, Ok}
use Rattle.std.specs.Float.{inf}
use Rattle.std.specs.Float.Ieee.{lt, le}
use Rattle.std.specs.Float.Ieee.Scale.{finite}
use Rattle.laws.specs.Binary64.{◌⊕◌, ◌⊖◌, ◌⊗◌, ◌⊘◌, whole, fraction, pi}
use Rattle.verdict.specs.declared.Refusal.TheVariants.{Range}
use Rattle.iir_biquad.specs.declared.preemphasis.Preemphasis.{Preemphasis}
use Rattle.verdict.specs.declared.Reason.TheVariants as Reason

unfoldable pub constant_taken : Float → Bool
constant_taken tau = lt (whole 0) tau && le tau (fraction 1 1000)

unfoldable pub rate_taken : Float → Bool
rate_taken rate = le (whole 40000) rate && finite rate

unfoldable pub pole_of : Float → Float
pole_of rate = whole 1 ⊘ (whole 2 ⊗ pi ⊗ (rate ⊘ fraction 24 10))

-- the numbers of what is refused
abbrev pub zeros : List Float
zeros = whole 0 ∷ whole 0 ∷ whole 0 ∷ []

unfoldable pub preemphasis_of : Float → Float → Preemphasis
unfolding constant_taken rate_taken pole_of
preemphasis_of tau rate =
    let k = whole 2 ⊗ rate in
    let pole = pole_of rate in
    let den = whole 1 ⊕ k ⊗ pole in
    cond (constant_taken tau)
    (cond (rate_taken rate)
    (record { coefs = (whole 1 ⊕ k ⊗ tau) ⊘ den ∷ (whole 1 ⊖ k ⊗ tau) ⊘ den ∷ (whole 1 ⊖ k ⊗ pole) ⊘ den ∷ []; verdict = Ok tt })
    (record { coefs = zeros; verdict = Err (Range Reason.Rate (whole 40000) (inf false) rate) }))
    (record { coefs = zeros; verdict = Err (Range Reason.Shape (whole 0) (fraction 1 1000) tau) })
