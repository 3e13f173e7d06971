-- `c_lowpass::lowpass::pel_lowpass_new` meets its contract, a code that is known and one that is not. Assumes nothing.
use Rattle.std.specs.Prelude.{Option, Result}
use mathlib.Core.Path.{sym, ap, ◌∙◌}
use Rattle.fir_lowpass.specs.Lowpass.{outcome_of}
use Rattle.verdict.specs.Reports.{outcome_report}
use Rattle.c_lowpass.specs.Lowpass.{lowpass_coded}
use Rattle.c_lowpass.proofs.lowpass.pel_lowpass_new.Goals as goal
use Rattle.fir_sinc.specs.declared.window.Window.{Window}
use Rattle.fir_lowpass.specs.declared.lowpass.Lowpass.{Lowpass}
use Rattle.verdict.specs.declared.Refusal.{Refusal}

pub returns-in-Some : goal.returns-in-Some
returns-in-Some c =
    let a = c.args in
    let known = sym c.in-Some.is ∙ c.window_of-coded.ensures in
    c.told.ensures ∙ ap (λ (d : Result Lowpass Refusal). outcome_report (outcome_of d)) c.new.ensures ∙ ap (λ (w : Option Window). outcome_report (outcome_of (lowpass_coded a.cutoff a.rate w a.taps))) known

pub returns-in-None : goal.returns-in-None
returns-in-None c =
    let a = c.args in
    let unknown = sym c.in-None.is ∙ c.window_of-coded.ensures in
    c.from.ensures ∙ ap (λ (w : Option Window). outcome_report (outcome_of (lowpass_coded a.cutoff a.rate w a.taps))) unknown
