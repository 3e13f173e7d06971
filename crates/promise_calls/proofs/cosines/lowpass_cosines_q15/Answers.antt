-- `promise_calls::cosines::lowpass_cosines_q15` meets its contract: what both exports ensure, by the chain to the
-- filter.
-- Assumes nothing.
use Rattle.std.specs.Prelude.{Some}
use Rattle.fir_sinc.specs.declared.window.Window.TheVariants.{Cosines}
use Rattle.promise_totals.proofs.FilterLaws.{lowpass_filter}
use Rattle.promise_calls.proofs.cosines.lowpass_cosines_q15.Goals as goal

pub returns : goal.returns
returns c =
    let a = c.args in
    lowpass_filter a.cutoff a.rate (Some (Cosines a.window)) c.pel_lowpass_cosines-design.ensures c.pel_to_q15-conversion.ensures
