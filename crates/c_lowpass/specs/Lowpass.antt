-- The low-pass with its window by a code, for a number of taps and for a buffer of bytes. Definitions only.
use Rattle.std.specs.Prelude.{ℕ, ◌/◌, Float, Err, None, Option, Result, Some}
use Rattle.verdict.specs.declared.Refusal.TheVariants.{Plain}
use Rattle.verdict.specs.Outcome.{Outcome}
use Rattle.fir_lowpass.specs.Lowpass.{lowpass_of, outcome_of}
use Rattle.wire.specs.Writes.{whole_taps}
use Rattle.fir_sinc.specs.declared.window.Window.{Window}
use Rattle.fir_lowpass.specs.declared.lowpass.Lowpass.{Lowpass}
use Rattle.verdict.specs.declared.Refusal.{Refusal}
use Rattle.verdict.specs.declared.Reason.TheVariants as Reason

abbrev pub lowpass_coded : Float → Float → Option Window → ℕ → Result Lowpass Refusal
lowpass_coded cutoff rate (Some w) n = lowpass_of cutoff rate w n
lowpass_coded cutoff rate None n = Err (Plain Reason.Code)

-- eight bytes a tap
abbrev pub lowpass_bytes : Float → Float → Option Window → ℕ → Outcome
lowpass_bytes cutoff rate (Some w) len = whole_taps len (outcome_of (lowpass_of cutoff rate w (len / 8)))
lowpass_bytes cutoff rate None len = Outcome.Refused (Plain Reason.Code)
