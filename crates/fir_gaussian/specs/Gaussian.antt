-- The Gaussian pulse of GFSK and GMSK, span · sps + 1 taps. Definitions only.
--   h[i] = exp(−a x²),  a = 2 π² bt² / ln 2,  x = (i − (n − 1)/2) / sps;  tap i is h[i] / Σ h
use Rattle.std.specs.Prelude.{ℕ, ◌+◌, ◌-◌, ◌*◌, ◌/◌, Bool, cond, ◌&&◌, List, nat_le, nat_lt, Float, Err, Ok, Result}
use Rattle.std.specs.Float.{binary64}
use Rattle.std.specs.Float.Ieee.{le, neg}
use Rattle.laws.specs.Binary64.{◌⊖◌, ◌⊗◌, ◌⊘◌, whole, fraction, pi, ln2}
use Rattle.laws.specs.Sums.{sum_to}
use Rattle.math_exp.specs.Exp.{exp_of}
use Rattle.verdict.specs.declared.Refusal.TheVariants.{Range}
use Rattle.fir_cache.specs.Cached.{CachesOf}
use Rattle.fir_design.specs.Designs as Designs
use Rattle.fir_design.specs.Designs.{Prepares}
use Rattle.verdict.specs.Outcome.{Outcome}
use Rattle.fir_gaussian.specs.declared.gaussian_design.Gaussian.{Gaussian}
use Rattle.verdict.specs.declared.Refusal.{Refusal}
use Rattle.verdict.specs.declared.Reason.TheVariants as Reason

-- ---- the raw taps
unfoldable pub exponent : Float → Float
exponent bt = whole 2 ⊗ pi ⊗ pi ⊗ bt ⊗ bt ⊘ ln2

unfoldable pub raw_at : Float → Float → Float → ℕ → Float
raw_at a sps mid i = let x = (whole i ⊖ mid) ⊘ sps in exp_of (neg (a ⊗ (x ⊗ x)))

-- ---- the judgement
unfoldable pub bt_taken : Float → Bool
bt_taken bt = le (fraction 2 10) bt && le bt (whole 1)

unfoldable pub span_taken : ℕ → Bool
span_taken span = nat_le 2 span && nat_le span 8

unfoldable pub samples_taken : ℕ → ℕ → Bool
samples_taken sps most = nat_le 2 sps && nat_le sps most

-- so many taps with the last divisor, the sum of the raw taps by rising index
unfoldable pub made_of : Float → ℕ → ℕ → Gaussian
unfolding exponent raw_at
made_of bt sps n = let mid = whole (n - 1) ⊘ whole 2 in record { a = exponent bt; sps = whole sps; mid = mid; n = n; sum = sum_to binary64 (raw_at (exponent bt) (whole sps) mid) n }

-- a ticket is accepted where the answer is `Ready`
unfoldable pub gaussian_of : Float → ℕ → ℕ → Result Gaussian Refusal
unfolding made_of bt_taken span_taken samples_taken
gaussian_of bt sps span =
    let most = 16777215 / span in
    cond (bt_taken bt)
    (cond (span_taken span)
    (cond (samples_taken sps most)
    (Ok (made_of bt sps (span * sps + 1)))
    (Err (Range Reason.Count (whole 2) (whole most) (whole sps))))
    (Err (Range Reason.Count (whole 2) (whole 8) (whole span))))
    (Err (Range Reason.Shape (fraction 2 10) (whole 1) bt))

-- for a buffer of len elements
abbrev pub fitted_of : Result Gaussian Refusal → ℕ → Result Gaussian Refusal
fitted_of d len = Designs.fitted_of (λ g. g.n) d len

-- ---- the taps
-- tap i of a design; 0 past the last one, and for a record that no design gives
unfoldable pub tap_of : Gaussian → ℕ → Float
unfolding raw_at
tap_of g i = cond (nat_lt 16777216 g.n) (whole 0) (cond (nat_lt i g.n) (raw_at g.a g.sps g.mid i ⊘ g.sum) (whole 0))

-- ---- what stays from the sum to the division
-- a list keeps a design's first raw taps
abbrev pub Caches : Gaussian → List Float → Type 0
Caches g rs = CachesOf (raw_at g.a g.sps g.mid) g.n rs

-- an answer that is the design d, and a list that keeps its first raw taps
abbrev pub PreparesGaussian : Result Gaussian Refusal → Result Gaussian Refusal → List Float → Type 0
PreparesGaussian d r rs = Prepares Caches d r rs

-- ---- what comes of a ticket
abbrev pub outcome_of : Result Gaussian Refusal → Outcome
outcome_of d = Designs.outcome_of (λ g. g.n) (λ g. g.sum) tap_of d
