-- The totals of what an export writes, a kind at a time.
use Rattle.std.specs.Prelude.{List, ℕ, length, Float, Option}
use Rattle.std.proofs.Common.{sym, subst}
use Rattle.wire.specs.Bytes.{float_bytes}
use Rattle.wire.specs.Read.{floats_back}
use Rattle.verdict.specs.Report.{accepted_of}
use Rattle.verdict.specs.declared.Report.{Report}
use Rattle.verdict.specs.Outcome.{Outcome}
use Rattle.fir_spec.specs.declared.DesignSpec.{DesignSpec}
use Rattle.c_lowpass.specs.Lowpass.{lowpass_bytes}
use Rattle.c_lowpass.specs.Prototype.{channelizer_bytes}
use Rattle.fir_lowpass.specs.Lowpass.{outcome_of}
use Rattle.c_retune.specs.Designs.{lowpass_for, cutoff_for, beta_for}
use Rattle.c_retune.specs.declared.record.Design.{Design}
use Rattle.c_pulses.specs.Buffers.{halfband_bytes, gaussian_bytes}
use Rattle.verdict.specs.Reports.{outcome_report}
use Rattle.c_lowpass.specs.Spec.{spec_bytes}
use Rattle.wire.specs.Writes.{Writes, written}
use Rattle.promise_totals.proofs.Normalised.{Promised, normalised_promised}
use Rattle.promise_totals.proofs.Sound.{Sound, lowpass_bytes_sound, design_lowpass_sound, design_cutoff_sound, design_beta_sound, spec_bytes_sound, halfband_bytes_sound, gaussian_bytes_sound, channelizer_bytes_sound}
use Rattle.promise_totals.specs.Written.{Totals}
use Rattle.fir_sinc.specs.declared.window.Window.{Window}

-- ---- of any outcome
-- what holds of an outcome's report and buffer holds of what an export answers and leaves
pub by_writes : (P : Report → List ℕ → Type 0) {o : Outcome} {before after : List ℕ} {r : Report} → Writes float_bytes o before r after → P (outcome_report o) (written float_bytes o before) → P r after
by_writes P {o} {before} {after} {r} w p = subst (λ (z : List ℕ). P r z) (sym w.buffer) (subst (λ (z : Report). P z (written float_bytes o before)) (sym w.answer) p)

sound_totals : (o : Outcome) (before : List ℕ) → Sound o → Totals (outcome_report o) (written float_bytes o before)
unfolding accepted_of
sound_totals (Outcome.Designed n divisor tap) before (taps, fit) =
    let p = subst (Promised divisor) (sym (floats_back n tap fit)) (normalised_promised taps) in
    record { taps = λ e. p.taps; codes = λ e t u. p.codes t }
sound_totals (Outcome.Refused why) before numbered = record { taps = λ e t u. absurd (numbered e); codes = λ e t u v w. absurd (numbered e) }

pub of_writes : {o : Outcome} {before after : List ℕ} {r : Report} → Sound o → Writes float_bytes o before r after → Totals r after
of_writes {o} {before} s w = by_writes Totals w (sound_totals o before s)

-- ---- of each export; `Writes` is what it ensures
-- `pel_lowpass`, by what its code stands for, and `pel_lowpass_cosines`, by its loaded window
pub lowpass_written : (cutoff rate : Float) (w : Option Window) (before after : List ℕ) (r : Report) → Writes float_bytes (lowpass_bytes cutoff rate w (length before)) before r after → Totals r after
lowpass_written cutoff rate w before after r h = of_writes (lowpass_bytes_sound cutoff rate w (length before)) h

-- `pel_design_lowpass`, `pel_design_new_cutoff` and `pel_design_new_beta`
pub design_lowpass_written : (cutoff rate : Float) (window : ℕ) (beta : Float) (before after : List ℕ) (r : Report) → Writes float_bytes (outcome_of (lowpass_for cutoff rate window beta (length before))) before r after → Totals r after
design_lowpass_written cutoff rate window beta before after r w = of_writes (design_lowpass_sound cutoff rate window beta (length before)) w

pub design_cutoff_written : (d : Design) (cutoff rate : Float) (before after : List ℕ) (r : Report) → Writes float_bytes (outcome_of (cutoff_for d cutoff rate (length before))) before r after → Totals r after
design_cutoff_written d cutoff rate before after r w = of_writes (design_cutoff_sound d cutoff rate (length before)) w

pub design_beta_written : (d : Design) (beta : Float) (before after : List ℕ) (r : Report) → Writes float_bytes (outcome_of (beta_for d beta (length before))) before r after → Totals r after
design_beta_written d beta before after r w = of_writes (design_beta_sound d beta (length before)) w

-- `pel_spec_design`
pub spec_written : (spec : DesignSpec) (rate : Float) (m : ℕ) (before after : List ℕ) (r : Report) → Writes float_bytes (spec_bytes spec rate m (length before)) before r after → Totals r after
spec_written spec rate m before after r w = of_writes (spec_bytes_sound spec rate m (length before)) w

-- `pel_halfband`
pub halfband_written : (beta : Float) (before after : List ℕ) (r : Report) → Writes float_bytes (halfband_bytes beta (length before)) before r after → Totals r after
halfband_written beta before after r w = of_writes (halfband_bytes_sound beta (length before)) w

-- `pel_gaussian`
pub gaussian_written : (bt : Float) (sps span : ℕ) (before after : List ℕ) (r : Report) → Writes float_bytes (gaussian_bytes bt sps span (length before)) before r after → Totals r after
gaussian_written bt sps span before after r w = of_writes (gaussian_bytes_sound bt sps span (length before)) w

-- `pel_channelizer_prototype`
pub channelizer_written : (channels branch : ℕ) (passband stopband attenuation : Float) (before after : List ℕ) (r : Report) → Writes float_bytes (channelizer_bytes channels branch passband stopband attenuation (length before)) before r after → Totals r after
channelizer_written channels branch passband stopband attenuation before after r w = of_writes (channelizer_bytes_sound channels branch passband stopband attenuation (length before)) w
