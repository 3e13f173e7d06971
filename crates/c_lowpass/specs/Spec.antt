-- The low-pass by its specification, for a buffer of bytes. Definitions only.
use Rattle.std.specs.Prelude.{ℕ, ◌/◌, Float}
use Rattle.fir_spec.specs.declared.DesignSpec.{DesignSpec}
use Rattle.verdict.specs.Outcome.{Outcome}
use Rattle.fir_lowpass.specs.Lowpass.{outcome_of}
use Rattle.fir_spec.specs.Spec.{spec_design_of}
use Rattle.wire.specs.Writes.{whole_taps}

abbrev pub spec_of : Float → Float → Float → DesignSpec
spec_of cutoff transition attenuation = record { cutoff = cutoff; transition = transition; attenuation = attenuation }

-- eight bytes a tap
abbrev pub spec_bytes : DesignSpec → Float → ℕ → ℕ → Outcome
spec_bytes spec rate max len = whole_taps len (outcome_of (spec_design_of spec rate max (len / 8)))
