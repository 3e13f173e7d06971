-- A low-pass by its specification: cutoff, transition and attenuation at a rate. Definitions only.
--   0 < transition,  0 < cutoff ≤ rate/2 − transition/2;  taps and beta by Kaiser's formulas, at most as many as the
--   cap
use Rattle.std.specs.Prelude.{ℕ, Bool, cond, ◌&&◌, eqb, ltb, Float, Err, Ok, Result}
use Rattle.std.specs.Float.Ieee.{lt, le}
use Rattle.laws.specs.Binary64.{◌⊖◌, ◌⊘◌, whole}
use Rattle.math_numbers.specs.Numbers.{positive}
use Rattle.verdict.specs.declared.Refusal.TheVariants as Refusal
use Rattle.fir_length.specs.Kaiser.{order_of}
use Rattle.fir_length.specs.declared.order.Order.{Order}
use Rattle.fir_lowpass.specs.Lowpass.{lowpass_of}
use Rattle.fir_sinc.specs.declared.window.Window.TheVariants.{Kaiser}
use Rattle.fir_spec.specs.declared.DesignSpec.{DesignSpec}
use Rattle.fir_lowpass.specs.declared.lowpass.Lowpass.{Lowpass}
use Rattle.verdict.specs.declared.Refusal.{Refusal}
use Rattle.verdict.specs.declared.Reason.TheVariants as Reason

unfoldable pub cutoff_taken : Float → Float → Bool
cutoff_taken cutoff most = lt (whole 0) cutoff && le cutoff most

-- an order within the cap
abbrev pub capped_of : Result Order Refusal → ℕ → Result Order Refusal
capped_of (Ok o) max = cond (ltb max o.taps) (Err (Refusal.Cap o.taps max)) (Ok o)
capped_of (Err why) max = Err why

unfoldable pub spec_order_of : DesignSpec → Float → ℕ → Result Order Refusal
unfolding cutoff_taken
spec_order_of spec rate max =
    let most = rate ⊘ whole 2 ⊖ spec.transition ⊘ whole 2 in
    cond (positive rate)
    (cond (positive spec.transition)
    (cond (cutoff_taken spec.cutoff most)
    (capped_of (order_of spec.attenuation spec.transition rate) max)
    (Err (Refusal.Range Reason.Frequency (whole 0) most spec.cutoff)))
    (Err (Refusal.Range Reason.Transition (whole 0) (rate ⊘ whole 2) spec.transition)))
    (Err (Refusal.Plain Reason.Rate))

-- ---- what each answer makes of the order
abbrev pub taps_in : Result Order Refusal → Result ℕ Refusal
taps_in (Ok o) = Ok o.taps
taps_in (Err why) = Err why

abbrev pub lowpass_in : DesignSpec → Float → Result Order Refusal → Result Lowpass Refusal
lowpass_in spec rate (Ok o) = lowpass_of spec.cutoff rate (Kaiser o.beta) o.taps
lowpass_in spec rate (Err why) = Err why

-- for a buffer of len elements
abbrev pub design_in : DesignSpec → Float → ℕ → Result Order Refusal → Result Lowpass Refusal
design_in spec rate len (Ok o) = cond (eqb o.taps len) (lowpass_of spec.cutoff rate (Kaiser o.beta) o.taps) (Err (Refusal.Length o.taps len))
design_in spec rate len (Err why) = Err why

unfoldable pub num_taps_of : DesignSpec → Float → ℕ → Result ℕ Refusal
num_taps_of spec rate max = taps_in (spec_order_of spec rate max)

unfoldable pub spec_lowpass_of : DesignSpec → Float → ℕ → Result Lowpass Refusal
spec_lowpass_of spec rate max = lowpass_in spec rate (spec_order_of spec rate max)

unfoldable pub spec_design_of : DesignSpec → Float → ℕ → ℕ → Result Lowpass Refusal
spec_design_of spec rate max len = design_in spec rate len (spec_order_of spec rate max)
