-- Half samples: a linear-phase filter of n taps is delayed by (n − 1)/2 samples with the half kept, which is n − 1 half
-- samples. 0 taps are no filter. Definitions only.
use Rattle.std.specs.Prelude.{ℕ, zero, suc, Err, Ok, Result}
use Rattle.verdict.specs.declared.Refusal.TheVariants.{Plain}
use Rattle.verdict.specs.declared.Refusal.{Refusal}
use Rattle.verdict.specs.declared.Reason.TheVariants as Reason
use Rattle.fir_delay.specs.declared.HalfSamples.{HalfSamples}

unfoldable pub delay_of : ℕ → Result HalfSamples Refusal
delay_of zero = Err (Plain Reason.Count)
delay_of (suc n) = Ok (record { count = n })
