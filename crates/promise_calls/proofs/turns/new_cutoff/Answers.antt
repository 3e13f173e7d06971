-- `promise_calls::turns::new_cutoff` meets its contract: what its export ensures, by demands 1 and 3, and what is promised of a
-- kept record. Assumes nothing.
use Rattle.fir_retune.specs.Operations.{NewCutoff}
use Rattle.c_retune.specs.Designs.{cutoff_for}
use Rattle.promise_refusals.specs.Exports.{design_cutoff}
use Rattle.promise_refusals.proofs.Kept.{filled_or_kept}
use Rattle.promise_retune.specs.Histories.{call_of}
use Rattle.promise_retune.specs.HistoryLaws.{advances, leaves_record}
use Rattle.promise_totals.proofs.WrittenLaws.{design_cutoff_written}
use lib.ListN.{length}
use Rattle.promise_calls.proofs.turns.new_cutoff.Goals as goal

pub returns : goal.returns
returns c =
    let a = c.args in
    record { filled_or_kept = filled_or_kept (design_cutoff a.design a.cutoff a.rate (length a.out.now)) c.pel_design_new_cutoff.ensures.writes c.pel_design_new_cutoff.auto.out; totals = design_cutoff_written a.design a.cutoff a.rate _ _ _ c.pel_design_new_cutoff.ensures.writes; leaves_record = leaves_record (cutoff_for a.design a.cutoff a.rate (length a.out.now)) c.pel_design_new_cutoff.ensures; promised = advances (call_of (NewCutoff a.cutoff a.rate) a.design a.out.now _ _) c.pel_design_new_cutoff.ensures }
