-- The channelizer's prototype for a buffer of bytes, eight a tap. Definitions only.
use Rattle.std.specs.Prelude.{ℕ, ◌/◌, Float}
use Rattle.verdict.specs.Outcome.{Outcome}
use Rattle.wire.specs.Writes.{whole_taps}
use Rattle.fir_lowpass.specs.Lowpass as Lowpass
use Rattle.fir_channelizer.specs.Channelizer as Channelizer

abbrev pub channelizer_bytes : ℕ → ℕ → Float → Float → Float → ℕ → Outcome
channelizer_bytes channels branch passband stopband attenuation len = whole_taps len (Lowpass.outcome_of (Channelizer.fitted_of (Channelizer.channelizer_lowpass_of channels branch passband stopband attenuation) (len / 8)))
