-- `promise_calls::card::read_ticket` meets its contract: what its export ensures, by demand 1. Assumes nothing.
use Rattle.promise_card.specs.ReadsLaws.{read_or_none}
use Rattle.promise_calls.proofs.card.read_ticket.Goals as goal

pub returns : goal.returns
returns c = read_or_none c.args.src.now c.pel_read_ticket.ensures
