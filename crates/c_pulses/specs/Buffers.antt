-- The half-band and the two pulses, each for a buffer of bytes, eight a tap. Definitions only.
use Rattle.std.specs.Prelude.{ℕ, ◌/◌, Float}
use Rattle.verdict.specs.Outcome.{Outcome}
use Rattle.wire.specs.Writes.{whole_taps}
use Rattle.fir_halfband.specs.Halfband as Halfband
use Rattle.fir_gaussian.specs.Gaussian as Gaussian
use Rattle.fir_rrc.specs.Rrc as Rrc

abbrev pub halfband_bytes : Float → ℕ → Outcome
halfband_bytes beta len = whole_taps len (Halfband.outcome_of (Halfband.halfband_of beta (len / 8)))

abbrev pub gaussian_bytes : Float → ℕ → ℕ → ℕ → Outcome
gaussian_bytes bt sps span len = whole_taps len (Gaussian.outcome_of (Gaussian.fitted_of (Gaussian.gaussian_of bt sps span) (len / 8)))

abbrev pub rrc_bytes : Float → ℕ → ℕ → ℕ → Outcome
rrc_bytes rolloff sps span len = whole_taps len (Rrc.outcome_of (Rrc.fitted_of (Rrc.rrc_of rolloff sps span) (len / 8)))
