-- `promise_calls::designs::lowpass` meets its contract: what its export ensures, by demands 1 and 3 and since up to
-- 713 every series settles. Assumes nothing.
use Rattle.ticket_codes.specs.Codes.{window_of}
use Rattle.promise_refusals.specs.Exports.{lowpass_bytes_lem}
use Rattle.promise_refusals.proofs.Kept.{filled_or_kept}
use Rattle.promise_settling.specs.TakenLaws.{lowpass_taken}
use Rattle.promise_totals.proofs.WrittenLaws.{lowpass_written}
use lib.ListN.{length}
use Rattle.promise_calls.proofs.designs.lowpass.Goals as goal

pub returns : goal.returns
returns c =
    let a = c.args in
    record { filled_or_kept = filled_or_kept (lowpass_bytes_lem a.cutoff a.rate (window_of a.window a.beta) (length a.out.now)) c.pel_lowpass.ensures c.pel_lowpass.auto.out; totals = lowpass_written a.cutoff a.rate (window_of a.window a.beta) _ _ _ c.pel_lowpass.ensures; taken_to713 = lowpass_taken a.cutoff a.rate a.window a.beta c.pel_lowpass.ensures }
