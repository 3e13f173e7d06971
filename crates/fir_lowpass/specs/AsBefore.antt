-- Where every series settles, the low-pass is what it was before that was asked, and before its record kept the value
-- that its window is divided by: the definition that stood then, its five tests one inside the other, comes to the
-- same, tap for tap. Assumes nothing.
use Rattle.std.specs.Prelude.{ℕ, ◌≡◌, refl, Bool, true, false, cond, ltb, Float, Err, Ok}
use Rattle.std.specs.Float.{binary64}
use Rattle.laws.specs.Binary64.{◌⊘◌, whole}
use Rattle.laws.specs.Sums.{sum_to}
use Rattle.math_numbers.specs.Numbers.{positive}
use Rattle.verdict.specs.declared.Refusal.TheVariants.{Plain, Range}
use Rattle.verdict.specs.Outcome.{Outcome}
use Rattle.fir_sinc.specs.Windows.{norm_of}
use Rattle.fir_sinc.specs.Taps.{raw_at}
use Rattle.fir_sinc.specs.declared.window.Window.{Window}
use Rattle.fir_lowpass.specs.Lowpass.{divisor_of, inside, count_taken, beta_taken, series_settle, usable, judgement_of, design_of, where_passed, lowpass_with, lowpass_of, tap_of, outcome_of}
use Rattle.verdict.specs.declared.Reason.TheVariants as Reason

unfoldable pub lowpass_before : Float → Float → Window → ℕ → Outcome
lowpass_before cutoff rate w n =
    let fc = cutoff ⊘ rate in
    let sum = sum_to binary64 (raw_at fc w (norm_of w) n) n in
    cond (positive rate)
    (cond (inside fc)
    (cond (count_taken n)
    (cond (beta_taken w)
    (cond (usable sum)
    (Outcome.Designed n sum (λ i. cond (ltb 16777216 n) (whole 0) (cond (ltb i n) (raw_at fc w (norm_of w) n i ⊘ sum) (whole 0))))
    (Outcome.Refused (Plain Reason.Divisor)))
    (Outcome.Refused (Plain Reason.Attenuation)))
    (Outcome.Refused (Plain Reason.Count)))
    (Outcome.Refused (Range Reason.Frequency (whole 0) (rate ⊘ whole 2) cutoff)))
    (Outcome.Refused (Plain Reason.Rate))

pub as_before : (cutoff rate : Float) (w : Window) (n : ℕ) → series_settle w n ≡ true → outcome_of (lowpass_of cutoff rate w n) ≡ lowpass_before cutoff rate w n
unfolding lowpass_of lowpass_with judgement_of design_of divisor_of tap_of lowpass_before
as_before cutoff rate w n settles = rw settles (go (positive rate) (inside (cutoff ⊘ rate)) (count_taken n) (beta_taken w) (usable (sum_to binary64 (raw_at (cutoff ⊘ rate) w (norm_of w) n) n)))
  where
    fc : Float
    fc = cutoff ⊘ rate

    sum : Float
    sum = sum_to binary64 (raw_at fc w (norm_of w) n) n

    go : (a b c d e : Bool)
        → outcome_of (where_passed (cond a (cond b (cond c (cond d (Ok tt) (Err (Plain Reason.Attenuation))) (Err (Plain Reason.Count))) (Err (Range Reason.Frequency (whole 0) (rate ⊘ whole 2) cutoff))) (Err (Plain Reason.Rate))) (cond e (Ok (record { n = n; fc = fc; window = w; i0 = norm_of w; sum = sum })) (Err (Plain Reason.Divisor))))
        ≡ cond a (cond b (cond c (cond d (cond e (Outcome.Designed n sum (λ i. cond (ltb 16777216 n) (whole 0) (cond (ltb i n) (raw_at fc w (norm_of w) n i ⊘ sum) (whole 0)))) (Outcome.Refused (Plain Reason.Divisor))) (Outcome.Refused (Plain Reason.Attenuation))) (Outcome.Refused (Plain Reason.Count))) (Outcome.Refused (Range Reason.Frequency (whole 0) (rate ⊘ whole 2) cutoff))) (Outcome.Refused (Plain Reason.Rate))
    go true true true true true = refl
    go true true true true false = refl
    go true true true false e = refl
    go true true false d e = refl
    go true false c d e = refl
    go false b c d e = refl
