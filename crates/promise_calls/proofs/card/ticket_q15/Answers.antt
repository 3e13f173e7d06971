-- `promise_calls::card::ticket_q15` meets its contract: what both exports ensure, by the chain to the filter. Assumes
-- nothing.
use Rattle.promise_card.specs.TicketsLaws.{ticket_filters}
use Rattle.promise_calls.proofs.card.ticket_q15.Goals as goal

pub returns : goal.returns
returns c =
    let a = c.args in
    ticket_filters a.ticket c.pel_design_ticket-design.ensures c.pel_to_q15-conversion.ensures
