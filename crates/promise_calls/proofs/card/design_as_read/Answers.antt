-- `promise_calls::card::design_as_read` meets its contract: a ticket comes back from its numbers. Assumes nothing.
use Rattle.promise_card.specs.TicketsLaws.{designs_read}
use Rattle.promise_calls.proofs.card.design_as_read.Goals as goal

pub returns : goal.returns
returns c = designs_read c.args.src.now c.pel_read_ticket-found.ensures c.pel_design_ticket.ensures
