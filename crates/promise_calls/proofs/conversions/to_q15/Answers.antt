-- `promise_calls::conversions::to_q15` meets its contract: what its export ensures, by demand 1. Assumes nothing.
use Rattle.promise_refusals.proofs.Kept.{converted_or_kept}
use Rattle.promise_calls.proofs.conversions.to_q15.Goals as goal

pub returns : goal.returns
returns c = converted_or_kept c.pel_to_q15.ensures c.pel_to_q15.auto.out
