-- `promise_calls::cosines::lowpass_cosines` meets its contract: what its export ensures, by demands 1 and 3 and since
-- loaded windows are those that are built in. Assumes nothing.
use Rattle.std.specs.Prelude.{Some}
use lib.ListN.{length}
use Rattle.fir_sinc.specs.declared.window.Window.TheVariants.{Cosines}
use Rattle.promise_refusals.specs.Exports.{lowpass_bytes_lem}
use Rattle.promise_refusals.proofs.Kept.{filled_or_kept}
use Rattle.promise_totals.proofs.WrittenLaws.{lowpass_written}
use Rattle.promise_cosines.specs.LoadedLaws.{writes_built_ins}
use Rattle.promise_calls.proofs.cosines.lowpass_cosines.Goals as goal

pub returns : goal.returns
returns c =
    let a = c.args in
    let v = Some (Cosines a.window) in
    record { filled_or_kept = filled_or_kept (lowpass_bytes_lem a.cutoff a.rate v (length a.out.now)) c.pel_lowpass_cosines.ensures c.pel_lowpass_cosines.auto.out; totals = lowpass_written a.cutoff a.rate v _ _ _ c.pel_lowpass_cosines.ensures; writes_built_ins = writes_built_ins a.cutoff a.rate a.window c.pel_lowpass_cosines.ensures }
