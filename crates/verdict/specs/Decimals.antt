-- The refusals' numbers as the header has them: a name whose number goes wrong in the code and in its definition alike is
-- told here. Assumes nothing.
use Rattle.std.specs.Prelude.{◌≡◌, refl, ℕ, List, [], ◌∷◌}
use Rattle.verdict.specs.Numbers.{bad_length, too_many_taps, bad_element}
use Rattle.verdict.specs.Report.{number_of}
use Rattle.verdict.specs.declared.Reason.TheVariants as Reason

-- those of a reason, as `Reason` lists them
abbrev pub reasons : List ℕ
reasons = number_of Reason.Rate ∷ number_of Reason.Frequency ∷ number_of Reason.Transition ∷ number_of Reason.Attenuation ∷ number_of Reason.Shape ∷ number_of Reason.Count ∷ number_of Reason.Code ∷ number_of Reason.CoefficientCount ∷ number_of Reason.Coefficient ∷ number_of Reason.CoefficientSum ∷ number_of Reason.Divisor ∷ number_of Reason.Unsettled ∷ number_of Reason.CutShort ∷ number_of Reason.Kind ∷ number_of Reason.RecordLength ∷ []

pub reasons_are : reasons ≡ 1 ∷ 2 ∷ 3 ∷ 4 ∷ 5 ∷ 6 ∷ 7 ∷ 17 ∷ 18 ∷ 19 ∷ 10 ∷ 16 ∷ 12 ∷ 13 ∷ 14 ∷ []
reasons_are = refl

-- those of a shape
pub shapes_are : bad_length ∷ too_many_taps ∷ bad_element ∷ [] ≡ 8 ∷ 9 ∷ 11 ∷ []
shapes_are = refl
