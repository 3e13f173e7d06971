-- Sections and pre-emphasis for a buffer of bytes, eight a number. Definitions only.
use Rattle.std.specs.Prelude.{ℕ, ◌/◌, cond, List, eqb, length, get_or, Float, Err, None, Ok, Option, Result, Some}
use Rattle.std.specs.Float.{nan}
use Rattle.laws.specs.Binary64.{whole}
use Rattle.verdict.specs.declared.Refusal.TheVariants.{Plain, Length}
use Rattle.verdict.specs.Outcome.{Outcome}
use Rattle.iir_biquad.specs.Biquad.{biquad_of}
use Rattle.iir_butterworth.specs.Butterworth.{butterworth_of}
use Rattle.iir_biquad.specs.Preemphasis.{preemphasis_of}
use Rattle.wire.specs.Writes.{whole_taps}
use Rattle.iir_biquad.specs.declared.biquad.Response.{Response}
use Rattle.verdict.specs.declared.Refusal.{Refusal}
use Rattle.verdict.specs.declared.Reason.TheVariants as Reason

-- coefficients beside their verdict; no divisor stands for the whole of them
abbrev pub numbers_of : Result (Unit {0}) Refusal → List Float → Outcome
numbers_of (Ok tt) xs = Outcome.Designed (length xs) (whole 0) (λ i. get_or xs i nan)
numbers_of (Err why) xs = Outcome.Refused why

-- five numbers, 40 bytes; an unknown response is refused first, then another length
abbrev pub biquad_bytes : Option Response → Float → Float → Float → ℕ → Outcome
biquad_bytes (Some r) centre q rate len = let b = biquad_of r centre q rate in cond (eqb len 40) (numbers_of b.verdict b.coefs) (Outcome.Refused (Length 40 len))
biquad_bytes None centre q rate len = Outcome.Refused (Plain Reason.Code)

-- three numbers, 24 bytes
abbrev pub preemphasis_bytes : Float → Float → ℕ → Outcome
preemphasis_bytes tau rate len = let p = preemphasis_of tau rate in cond (eqb len 24) (numbers_of p.verdict p.coefs) (Outcome.Refused (Length 24 len))

-- a response that is known but wrong is told after the bytes, as the filter's own first refusal
abbrev pub butterworth_bytes : Option Response → ℕ → Float → Float → ℕ → Outcome
butterworth_bytes (Some r) order cutoff rate len = whole_taps len (butterworth_of r order cutoff rate (len / 8))
butterworth_bytes None order cutoff rate len = Outcome.Refused (Plain Reason.Code)
