-- An accepted design by a specification has as many taps as its buffer has elements. Assumes nothing.
use Rattle.std.proofs.Common.{sym}
use Rattle.std.specs.Prelude.{ℕ, Float, Ok, Err, Result}
use Rattle.verdict.specs.declared.Refusal.{Refusal}
use Rattle.verdict.specs.Counted.{Counted, where_equal}
use Rattle.fir_length.specs.declared.order.Order.{Order}
use Rattle.fir_sinc.specs.declared.window.Window.TheVariants.{Kaiser}
use Rattle.fir_lowpass.specs.Lowpass.{outcome_of}
use Rattle.fir_lowpass.proofs.LowpassLaws.{lowpass_count}
use Rattle.fir_spec.specs.declared.DesignSpec.{DesignSpec}
use Rattle.fir_spec.specs.Spec.{design_in, spec_order_of, spec_design_of}

in_order : (spec : DesignSpec) (rate : Float) (len : ℕ) (order : Result Order Refusal) → Counted len (outcome_of (design_in spec rate len order))
in_order spec rate len (Ok o) = where_equal outcome_of len _ _ o.taps len (λ e. rw (sym e) (lowpass_count spec.cutoff rate (Kaiser o.beta) o.taps)) tt
in_order spec rate len (Err why) = tt

pub spec_count : (spec : DesignSpec) (rate : Float) (max len : ℕ) → Counted len (outcome_of (spec_design_of spec rate max len))
unfolding spec_design_of
spec_count spec rate max len = in_order spec rate len (spec_order_of spec rate max)
