-- `promise_calls::card::check_card` meets its contract: what its export ensures, by demand 1. Assumes nothing.
use Rattle.promise_card.specs.ReadsLaws.{checked_card}
use Rattle.promise_calls.proofs.card.check_card.Goals as goal

pub returns : goal.returns
returns c = checked_card c.args.src.now c.pel_check_card.ensures
