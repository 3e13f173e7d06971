-- What is told of each refusal: its number and what it carries. Definitions only.
use Rattle.std.specs.Prelude.{ℕ, Float}
use Rattle.laws.specs.Binary64.{whole}
use Rattle.verdict.specs.Numbers.{bad_rate, bad_frequency, bad_transition, bad_attenuation, bad_shape, bad_count, bad_code, bad_coefficient_count, bad_coefficient, bad_coefficient_sum, bad_length, too_many_taps, bad_sum, bad_element, not_settled, cut_short, unknown_kind, bad_record_length}
use Rattle.verdict.specs.declared.Reason.{Reason}
use Rattle.verdict.specs.declared.Refusal.{Refusal}
use Rattle.verdict.specs.declared.Refusal.TheVariants.{Plain, Range, Length, Cap, Element}
use Rattle.verdict.specs.declared.Report.{Report}

-- a report with no results
abbrev pub told : ℕ → ℕ → Float → Float → Float → ℕ → ℕ → ℕ → Report
told number carries smallest largest offered expected given index = record { number = number; carries = carries; smallest = smallest; largest = largest; offered = offered; expected = expected; given = given; index = index; count = 0; value = whole 0 }

-- the number of a reason
abbrev pub number_of : Reason → ℕ
number_of Reason.Rate = bad_rate
number_of Reason.Frequency = bad_frequency
number_of Reason.Transition = bad_transition
number_of Reason.Attenuation = bad_attenuation
number_of Reason.Shape = bad_shape
number_of Reason.Count = bad_count
number_of Reason.Code = bad_code
number_of Reason.CoefficientCount = bad_coefficient_count
number_of Reason.Coefficient = bad_coefficient
number_of Reason.CoefficientSum = bad_coefficient_sum
number_of Reason.Divisor = bad_sum
number_of Reason.Unsettled = not_settled
number_of Reason.CutShort = cut_short
number_of Reason.Kind = unknown_kind
number_of Reason.RecordLength = bad_record_length

-- a cap carries the range that an f64 holds of it too: at least n, at most 2^24, the cap offered
unfoldable pub report_of : Refusal → Report
report_of (Plain k) = told (number_of k) 0 (whole 0) (whole 0) (whole 0) 0 0 0
report_of (Range k lo hi got) = told (number_of k) 1 lo hi got 0 0 0
report_of (Length expected given) = told bad_length 2 (whole 0) (whole 0) (whole 0) expected given 0
report_of (Cap n cap) = told too_many_taps 3 (whole n) (whole 16777216) (whole cap) n cap 0
report_of (Element i lo hi got) = told bad_element 4 lo hi got 0 0 i

unfoldable pub accepted_of : ℕ → Float → Report
accepted_of count value = record { number = 0; carries = 0; smallest = whole 0; largest = whole 0; offered = whole 0; expected = 0; given = 0; index = 0; count = count; value = value }
