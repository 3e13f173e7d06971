-- The windowed-sinc low-pass of n taps with the cutoff fc, a fraction of the rate. Definitions only.
--   tap i is h[i] / Σ h, with the raw taps h of `fir_sinc/Taps`; the window is divided by i0, the series at its beta
use Rattle.std.specs.Prelude.{ℕ, ◌-◌, Bool, true, cond, ◌&&◌, ltb, leb, Float, Err, Ok, Result}
use Rattle.std.specs.Float.{binary64}
use Rattle.std.specs.Float.Ieee.{lt, le, ne}
use Rattle.std.specs.Float.Ieee.Scale.{finite}
use Rattle.laws.specs.Binary64.{◌⊘◌, whole, fraction}
use Rattle.laws.specs.Sums.{sum_to}
use Rattle.math_numbers.specs.Numbers.{positive}
use Rattle.verdict.specs.declared.Refusal.TheVariants.{Plain, Range}
use Rattle.verdict.specs.Outcome.{Outcome}
use Rattle.fir_design.specs.Designs as Designs
use Rattle.win_settling.specs.Settling.{kaiser_settles}
use Rattle.fir_sinc.specs.Windows.{norm_of}
use Rattle.fir_sinc.specs.Taps.{raw_at}
use Rattle.fir_sinc.specs.declared.window.Window.{Window}
use Rattle.fir_sinc.specs.declared.window.Window.TheVariants.{Hann, Hamming, Blackman, Kaiser, Cosines}
use Rattle.fir_lowpass.specs.declared.lowpass.Lowpass.{Lowpass}
use Rattle.verdict.specs.declared.Refusal.{Refusal}
use Rattle.verdict.specs.declared.Reason.TheVariants as Reason

-- the last divisor: the sum of the raw taps by rising index
unfoldable pub divisor_of : Float → Window → Float → ℕ → Float
divisor_of fc w i0 n = sum_to binary64 (raw_at fc w i0 n) n

-- ---- the judgement
unfoldable pub inside : Float → Bool
inside fc = lt (whole 0) fc && lt fc (fraction 1 2)

unfoldable pub count_taken : ℕ → Bool
count_taken n = ltb 0 n && leb n 16777216

unfoldable pub beta_taken : Window → Bool
beta_taken Hann = true
beta_taken Hamming = true
beta_taken Blackman = true
beta_taken (Kaiser beta) = finite beta && le (whole 0) beta
beta_taken (Cosines c) = true

-- every series that n taps take has settled: Kaiser's at beta and at each tap, of which one tap takes none
unfoldable pub series_settle : Window → ℕ → Bool
series_settle Hann n = true
series_settle Hamming n = true
series_settle Blackman n = true
series_settle (Kaiser beta) n = kaiser_settles beta (n - 1) n
series_settle (Cosines c) n = true

unfoldable pub usable : Float → Bool
usable s = finite s && ne s (whole 0)

-- the numbers of a ticket, in this order
unfoldable pub judgement_of : Float → Float → Window → ℕ → Result (Unit {0}) Refusal
unfolding inside count_taken beta_taken series_settle
judgement_of cutoff rate w n =
    cond (positive rate)
    (cond (inside (cutoff ⊘ rate))
    (cond (count_taken n)
    (cond (beta_taken w)
    (cond (series_settle w n)
    (Ok tt)
    (Err (Plain Reason.Unsettled)))
    (Err (Plain Reason.Attenuation)))
    (Err (Plain Reason.Count)))
    (Err (Range Reason.Frequency (whole 0) (rate ⊘ whole 2) cutoff)))
    (Err (Plain Reason.Rate))

-- the design, where its taps can be divided by their sum
unfoldable pub design_of : Float → Window → Float → ℕ → Result Lowpass Refusal
unfolding divisor_of usable
design_of fc w i0 n =
    let sum = divisor_of fc w i0 n in
    cond (usable sum) (Ok (record { n = n; fc = fc; window = w; i0 = i0; sum = sum })) (Err (Plain Reason.Divisor))

-- a design for numbers that pass, else their refusal
abbrev pub where_passed : Result (Unit {0}) Refusal → Result Lowpass Refusal → Result Lowpass Refusal
where_passed (Ok tt) d = d
where_passed (Err why) d = Err why

-- the low-pass whose window is divided by i0
unfoldable pub lowpass_with : Float → Float → Window → Float → ℕ → Result Lowpass Refusal
unfolding judgement_of design_of
lowpass_with cutoff rate w i0 n = where_passed (judgement_of cutoff rate w n) (design_of (cutoff ⊘ rate) w i0 n)

-- the low-pass of a ticket, divided by the series at its window's beta: accepted where the answer is `Ready`
unfoldable pub lowpass_of : Float → Float → Window → ℕ → Result Lowpass Refusal
unfolding lowpass_with
lowpass_of cutoff rate w n = lowpass_with cutoff rate w (norm_of w) n

-- ---- the taps
-- tap i of a design, by the value that it keeps; 0 past the last one, and for a record with more taps than a design has
unfoldable pub tap_of : Lowpass → ℕ → Float
unfolding raw_at
tap_of l i = cond (ltb 16777216 l.n) (whole 0) (cond (ltb i l.n) (raw_at l.fc l.window l.i0 l.n i ⊘ l.sum) (whole 0))

-- ---- what comes of a ticket
abbrev pub outcome_of : Result Lowpass Refusal → Outcome
outcome_of d = Designs.outcome_of (λ l. l.n) (λ l. l.sum) tap_of d
