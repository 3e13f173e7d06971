-- The half-band of n taps, n mod 4 = 3. Definitions only.
--   l is the low-pass of n taps with the cutoff at a quarter of the rate and Kaiser's window, m = (n − 1)/2 the middle;
--   h[k] = 0 where |k − m| is even and not 0, else l[k];  then h[n − 1 − k] = h[k] for k < m;  tap k is h[k] / Σ h
use Rattle.std.specs.Prelude.{ℕ, ◌+◌, ◌-◌, ◌/◌, ◌%◌, min, Bool, cond, not, ◌&&◌, List, eqb, ltb, leb, Float, Err, Ok, Result}
use Rattle.std.specs.Float.{binary64}
use Rattle.laws.specs.Binary64.{◌⊘◌, whole, fraction}
use Rattle.laws.specs.Sums.{sum_to}
use Rattle.verdict.specs.declared.Refusal.TheVariants.{Plain}
use Rattle.verdict.specs.Outcome.{Outcome}
use Rattle.fir_design.specs.Designs as Designs
use Rattle.fir_design.specs.Designs.{Prepares}
use Rattle.fir_lowpass.specs.Lowpass as Lowpass
use Rattle.fir_lowpass.specs.Cached.{Caches}
use Rattle.fir_sinc.specs.declared.window.Window.TheVariants.{Kaiser}
use Rattle.fir_lowpass.specs.declared.lowpass.Lowpass.{Lowpass}
use Rattle.fir_halfband.specs.declared.HalfbandDesign.{HalfbandDesign}
use Rattle.verdict.specs.declared.Refusal.{Refusal}
use Rattle.verdict.specs.declared.Reason.TheVariants as Reason

unfoldable pub length_taken : ℕ → Bool
length_taken n = leb 3 n && eqb (n % 4) 3

-- ---- where a half-band is zero
-- "the middle" of n taps, and "the distance" of tap k from it
abbrev pub middle : ℕ → ℕ
middle n = (n - 1) / 2

abbrev pub distance : ℕ → ℕ → ℕ
distance n k = (k - middle n) + (middle n - k)

unfoldable pub vanishes : ℕ → ℕ → Bool
vanishes n k = not (eqb (distance n k) 0) && eqb (distance n k % 2) 0

-- the low-pass that it is made from
abbrev pub quarter_of : Float → ℕ → Result Lowpass Refusal
quarter_of beta n = Lowpass.lowpass_of (fraction 1 4) (whole 1) (Kaiser beta) n

-- ---- one tap at a time
-- h[k] of n taps
unfoldable pub unscaled : Lowpass → ℕ → ℕ → Float
unfolding vanishes
unscaled l n k = cond (vanishes n k) (whole 0) (Lowpass.tap_of l (min k (n - 1 - k)))

-- the last divisor: the sum of the h[k] by rising index
unfoldable pub divisor_of : Lowpass → ℕ → Float
unfolding unscaled
divisor_of l n = sum_to binary64 (unscaled l n) n

-- a ticket is accepted where the answer is `Ready`
abbrev pub halfband_in : ℕ → Result Lowpass Refusal → Result HalfbandDesign Refusal
halfband_in n (Ok l) = cond (Lowpass.usable (divisor_of l n)) (Ok (record { lp = l; n = n; sum = divisor_of l n })) (Err (Plain Reason.Divisor))
halfband_in n (Err why) = Err why

unfoldable pub halfband_of : Float → ℕ → Result HalfbandDesign Refusal
unfolding length_taken
halfband_of beta n = cond (length_taken n) (halfband_in n (quarter_of beta n)) (Err (Plain Reason.Count))

-- tap k of a design; 0 past the last one
unfoldable pub tap_of : HalfbandDesign → ℕ → Float
unfolding unscaled
tap_of d k = cond (ltb k d.n) (unscaled d.lp d.n k ⊘ d.sum) (whole 0)

-- an answer that is the design d, and, where there is one, a list that keeps the low-pass's first raw taps
abbrev pub PreparesHalfband : Result HalfbandDesign Refusal → Result HalfbandDesign Refusal → List Float → Type 0
PreparesHalfband d r rs = Prepares (λ h. Caches h.lp) d r rs

-- what comes of a ticket
abbrev pub outcome_of : Result HalfbandDesign Refusal → Outcome
outcome_of d = Designs.outcome_of (λ h. h.n) (λ h. h.sum) tap_of d

-- ---- a buffer at once
-- the low-pass's taps cleared, then mirrored, the left half to the right
abbrev pub cleared : Lowpass → ℕ → Float
cleared l k = cond (vanishes l.n k) (whole 0) (Lowpass.tap_of l k)

abbrev pub mirrored : Lowpass → ℕ → Float
mirrored l k = cleared l (cond (ltb (middle l.n) k) (l.n - 1 - k) k)

abbrev pub mirrored_sum : Lowpass → Float
mirrored_sum l = sum_to binary64 (mirrored l) l.n

abbrev pub taps_in : Result Lowpass Refusal → Outcome
taps_in (Ok l) = cond (Lowpass.usable (mirrored_sum l)) (Outcome.Designed l.n (mirrored_sum l) (λ k. mirrored l k ⊘ mirrored_sum l)) (Outcome.Refused (Plain Reason.Divisor))
taps_in (Err why) = Outcome.Refused why

-- what comes of a ticket with a buffer of n elements
unfoldable pub halfband_taps_of : Float → ℕ → Outcome
unfolding length_taken
halfband_taps_of beta n = cond (length_taken n) (taps_in (quarter_of beta n)) (Outcome.Refused (Plain Reason.Count))
