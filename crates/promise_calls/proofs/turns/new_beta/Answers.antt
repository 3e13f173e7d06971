-- `promise_calls::turns::new_beta` meets its contract: what its export ensures, by demands 1 and 3, and what is promised of a
-- kept record. Assumes nothing.
use Rattle.fir_retune.specs.Operations.{NewBeta}
use Rattle.c_retune.specs.Designs.{beta_for}
use Rattle.promise_refusals.specs.Exports.{design_beta}
use Rattle.promise_refusals.proofs.Kept.{filled_or_kept}
use Rattle.promise_retune.specs.Histories.{call_of}
use Rattle.promise_retune.specs.HistoryLaws.{advances, leaves_record}
use Rattle.promise_totals.proofs.WrittenLaws.{design_beta_written}
use lib.ListN.{length}
use Rattle.promise_calls.proofs.turns.new_beta.Goals as goal

pub returns : goal.returns
returns c =
    let a = c.args in
    record { filled_or_kept = filled_or_kept (design_beta a.design a.beta (length a.out.now)) c.pel_design_new_beta.ensures.writes c.pel_design_new_beta.auto.out; totals = design_beta_written a.design a.beta _ _ _ c.pel_design_new_beta.ensures.writes; leaves_record = leaves_record (beta_for a.design a.beta (length a.out.now)) c.pel_design_new_beta.ensures; promised = advances (call_of (NewBeta a.beta) a.design a.out.now _ _) c.pel_design_new_beta.ensures }
