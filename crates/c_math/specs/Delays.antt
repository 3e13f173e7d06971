-- The half is kept: where a delay is told, its half samples and 1 more are the taps.
use Rattle.std.specs.Prelude.{ℕ, zero, suc, ◌≡◌, refl}
use Rattle.std.proofs.Common.{arith}
use Rattle.verdict.specs.declared.Report.{Report}
use Rattle.verdict.specs.Report.{report_of, accepted_of}
use Rattle.fir_delay.specs.Delay.{delay_of}
use Rattle.c_math.specs.Reports.{delay_report}

-- what the report r says of so many taps
abbrev pub KeepsHalf : ℕ → Report → Type 0
KeepsHalf taps r = r.number ≡ 0 → suc r.count ≡ taps

pub half_kept : (taps : ℕ) → KeepsHalf taps (delay_report (delay_of taps))
unfolding delay_of report_of accepted_of
half_kept zero told = absurd (omega (arith, told))
half_kept (suc n) told = refl
