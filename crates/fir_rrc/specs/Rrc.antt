-- The root-raised-cosine pulse, span · sps + 1 taps, of unit energy. Definitions only.
--   t = (k − (n − 1)/2)/sps,  x = 4 b t;  h(0) = (1 − b) + 4 b/π
--   h(t) = b/√2 ((1 + 2/π) sin(π/(4 b)) + (1 − 2/π) cos(π/(4 b))) where |1 − x²| < 1e-9
--   h(t) = (sin(π t (1 − b)) + x cos(π t (1 + b))) / (π t (1 − x²)) else;  tap k is h · 1/√(Σ h²)
use Rattle.std.specs.Prelude.{ℕ, ◌+◌, ◌-◌, ◌*◌, Bool, cond, ◌&&◌, nat_le, nat_lt, Float, Err, Ok, Result}
use Rattle.std.specs.Float.{binary64}
use Rattle.std.specs.Float.Ieee.{lt, le, eq}
use Rattle.laws.specs.Binary64.{◌⊕◌, ◌⊖◌, ◌⊗◌, ◌⊘◌, whole, fraction, pi, sqrt2}
use Rattle.laws.specs.Sums.{sum_to}
use Rattle.math_round.specs.Whole.{abs_of}
use Rattle.math_sqrt.specs.Sqrt.{sqrt_of}
use Rattle.math_trig.specs.Trig.{sin_of, cos_of}
use Rattle.verdict.specs.Outcome.{Outcome}
use Rattle.fir_design.specs.Designs as Designs
use Rattle.fir_rrc.specs.declared.design.Rrc.{Rrc}
use Rattle.verdict.specs.declared.Refusal.{Refusal}
use Rattle.verdict.specs.declared.Reason.TheVariants as Reason

-- ---- the number of taps: the samples tested before the span
unfoldable pub sampled : ℕ → Bool
sampled sps = nat_le 2 sps && nat_le sps 1024

unfoldable pub spanned : ℕ → Bool
spanned span = nat_le 4 span && nat_le span 32

unfoldable pub rrc_len_of : ℕ → ℕ → Result ℕ Refusal
unfolding sampled spanned
rrc_len_of sps span =
    cond (sampled sps)
    (cond (spanned span)
    (Ok (span * sps + 1))
    (Err (Refusal.Range Reason.Count (whole 4) (whole 32) (whole span))))
    (Err (Refusal.Range Reason.Count (whole 2) (whole 1024) (whole sps)))

-- ---- the pulse at t, before the scaling
unfoldable pub peak : Float → Float
peak b = (whole 1 ⊖ b) ⊕ whole 4 ⊗ b ⊘ pi

unfoldable pub corner : Float → Float
corner b = let a = pi ⊘ (whole 4 ⊗ b) in (b ⊘ sqrt2) ⊗ ((whole 1 ⊕ whole 2 ⊘ pi) ⊗ sin_of a ⊕ (whole 1 ⊖ whole 2 ⊘ pi) ⊗ cos_of a)

unfoldable pub slope : Float → Float → Float → Float → Float
slope b t x den = (sin_of (pi ⊗ t ⊗ (whole 1 ⊖ b)) ⊕ x ⊗ cos_of (pi ⊗ t ⊗ (whole 1 ⊕ b))) ⊘ (pi ⊗ t ⊗ den)

unfoldable pub pulse_at : Float → Float → Float
unfolding peak corner slope
pulse_at b t =
    let x = whole 4 ⊗ b ⊗ t in
    let den = whole 1 ⊖ x ⊗ x in
    cond (eq t (whole 0)) (peak b) (cond (lt (abs_of den) (fraction 1 1000000000)) (corner b) (slope b t x den))

-- tap k of n
unfoldable pub unscaled_at : Float → ℕ → ℕ → ℕ → Float
unfolding pulse_at
unscaled_at b sps n k = pulse_at b ((whole k ⊖ whole (n - 1) ⊘ whole 2) ⊘ whole sps)

-- ---- the design
unfoldable pub rolloff_taken : Float → Bool
rolloff_taken b = le (fraction 5 100) b && le b (whole 1)

-- 1/√ of the energy by rising index
unfoldable pub norm_of : Float → ℕ → ℕ → Float
norm_of b sps n = whole 1 ⊘ sqrt_of (sum_to binary64 (λ k. unscaled_at b sps n k ⊗ unscaled_at b sps n k) n)

abbrev pub rrc_in : Float → ℕ → Result ℕ Refusal → Result Rrc Refusal
rrc_in b sps (Ok n) = Ok (record { rolloff = b; sps = sps; n = n; norm = norm_of b sps n })
rrc_in b sps (Err why) = Err why

unfoldable pub rrc_of : Float → ℕ → ℕ → Result Rrc Refusal
unfolding rolloff_taken
rrc_of b sps span = cond (rolloff_taken b) (rrc_in b sps (rrc_len_of sps span)) (Err (Refusal.Range Reason.Shape (fraction 5 100) (whole 1) b))

-- tap k of a design, a product; 0 past the last one, and for a record that no design gives
unfoldable pub tap_of : Rrc → ℕ → Float
unfolding unscaled_at
tap_of d k = cond (nat_lt 16777216 d.n) (whole 0) (cond (nat_lt k d.n) (cond (nat_lt 16777216 d.sps) (whole 0) (unscaled_at d.rolloff d.sps d.n k ⊗ d.norm)) (whole 0))

-- for a buffer of len elements
abbrev pub fitted_of : Result Rrc Refusal → ℕ → Result Rrc Refusal
fitted_of d len = Designs.fitted_of (λ r. r.n) d len

-- what comes of a ticket; its factor stands in the divisor's place
abbrev pub outcome_of : Result Rrc Refusal → Outcome
outcome_of d = Designs.outcome_of (λ r. r.n) (λ r. r.norm) tap_of d
