-- What is told of Kaiser's estimate, of a delay in half samples, of a Q15 or Q14 number and of the Bessel series.
-- Definitions only.
use Rattle.std.specs.Prelude.{ℕ, cond, Float, Err, Ok, Result, ℤ}
use Rattle.std.specs.Float.{binary64}
use Rattle.std.specs.Float.Ieee.{of_int}
use Rattle.laws.specs.Binary64.{whole}
use Rattle.verdict.specs.Numbers.{not_settled}
use Rattle.verdict.specs.declared.Report.{Report}
use Rattle.verdict.specs.Report.{report_of, accepted_of}
use Rattle.math_bessel.specs.declared.Series.{Series}
use Rattle.fir_length.specs.declared.order.Order.{Order}
use Rattle.fir_delay.specs.declared.HalfSamples.{HalfSamples}
use Rattle.verdict.specs.declared.Refusal.{Refusal}

-- taps and beta
abbrev pub order_report : Result Order Refusal → Report
order_report (Ok o) = accepted_of o.taps o.beta
order_report (Err why) = report_of why

-- half samples
abbrev pub delay_report : Result HalfSamples Refusal → Report
delay_report (Ok h) = accepted_of h.count (whole 0)
delay_report (Err why) = report_of why

-- a Q15 or Q14 number
abbrev pub coded_report : Result ℤ Refusal → Report
coded_report (Ok q) = accepted_of 0 (of_int binary64 q)
coded_report (Err why) = report_of why

-- a series has its number of terms and its sum for every argument, and both are told where it hasn't settled too
abbrev pub unsettled_of : ℕ → Float → Report
unsettled_of count value = record { number = not_settled; carries = 0; smallest = whole 0; largest = whole 0; offered = whole 0; expected = 0; given = 0; index = 0; count = count; value = value }

abbrev pub series_report : Series → Report
series_report s = cond s.settled (accepted_of s.terms s.sum) (unsettled_of s.terms s.sum)
