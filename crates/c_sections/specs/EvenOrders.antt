-- Even orders are kept: a Butterworth filter of an even order is told and written as it was when even orders alone were
-- taken.
use Rattle.std.specs.Prelude.{ℕ, ◌/◌, ◌%◌, ◌≡◌, refl, List, length, Float, None, Option, Some}
use Rattle.std.proofs.Common.{ap}
use Rattle.verdict.specs.declared.Refusal.TheVariants.{Plain}
use Rattle.verdict.specs.declared.Report.{Report}
use Rattle.verdict.specs.Outcome.{Outcome}
use Rattle.iir_butterworth.specs.EvenOrders.{even_of, even_kept}
use Rattle.wire.specs.Bytes.{float_bytes}
use Rattle.wire.specs.Writes.{whole_taps, Writes}
use Rattle.wire.proofs.WritesLaws.{writes_same}
use Rattle.c_sections.specs.Numbers.{butterworth_bytes}
use Rattle.iir_biquad.specs.declared.biquad.Response.{Response}
use Rattle.verdict.specs.declared.Reason.TheVariants as Reason

-- even orders alone, for a buffer of bytes
abbrev pub even_bytes : Option Response → ℕ → Float → Float → ℕ → Outcome
even_bytes (Some r) order cutoff rate len = whole_taps len (even_of r order cutoff rate (len / 8))
even_bytes None order cutoff rate len = Outcome.Refused (Plain Reason.Code)

-- what the report r and the buffer afterwards are
abbrev pub KeepsEven : Option Response → ℕ → Float → Float → List ℕ → Report → List ℕ → Type 0
KeepsEven c order cutoff rate before r after = order % 2 ≡ 0 → Writes float_bytes (even_bytes c order cutoff rate (length before)) before r after

even_bytes_lem : (c : Option Response) (order : ℕ) (cutoff rate : Float) (len : ℕ) → order % 2 ≡ 0 → butterworth_bytes c order cutoff rate len ≡ even_bytes c order cutoff rate len
even_bytes_lem (Some r) order cutoff rate len e = ap (whole_taps len) (even_kept r order cutoff rate (len / 8) e)
even_bytes_lem None order cutoff rate len e = refl

pub keeps_even : (c : Option Response) (order : ℕ) (cutoff rate : Float) {before after : List ℕ} {r : Report} → Writes float_bytes (butterworth_bytes c order cutoff rate (length before)) before r after → KeepsEven c order cutoff rate before r after
keeps_even c order cutoff rate {before} h e = writes_same (even_bytes_lem c order cutoff rate (length before) e) h
