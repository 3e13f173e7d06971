-- `promise_calls::turns::design_lowpass` meets its contract: what its export ensures, by demands 1 and 3, and what is promised of a
-- kept record. Assumes nothing.
use Rattle.ticket_codes.specs.Codes.{window_of}
use Rattle.wire.proofs.WritesLaws.{writes_same}
use Rattle.promise_refusals.specs.Exports.{lowpass_bytes_lem, design_lowpass}
use Rattle.promise_refusals.proofs.Kept.{filled_or_kept}
use Rattle.promise_retune.specs.HistoryLaws.{as_lowpass, begins}
use Rattle.promise_totals.proofs.WrittenLaws.{design_lowpass_written}
use lib.ListN.{length}
use Rattle.promise_calls.proofs.turns.design_lowpass.Goals as goal

pub returns : goal.returns
returns c =
    let a = c.args in
    let len = length a.out.now in
    record { filled_or_kept = filled_or_kept (lowpass_bytes_lem a.cutoff a.rate (window_of a.window a.beta) len) (writes_same (as_lowpass a.cutoff a.rate a.window a.beta len) c.pel_design_lowpass.ensures.writes) c.pel_design_lowpass.auto.out; totals = design_lowpass_written a.cutoff a.rate a.window a.beta _ _ _ c.pel_design_lowpass.ensures.writes; begins = begins a.cutoff a.rate a.window a.beta (design_lowpass a.cutoff a.rate a.window a.beta len) c.pel_design_lowpass.ensures }
