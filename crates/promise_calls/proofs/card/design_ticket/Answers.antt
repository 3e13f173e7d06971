-- `promise_calls::card::design_ticket` meets its contract: what its export ensures, by demands 1 and 3. Assumes
-- nothing.
use lib.ListN.{length}
use Rattle.promise_refusals.proofs.Kept.{filled_or_kept}
use Rattle.promise_card.specs.TicketsLaws.{bytes_listed, ticket_totals, ticket_mirrors}
use Rattle.promise_calls.proofs.card.design_ticket.Goals as goal

pub returns : goal.returns
returns c =
    let a = c.args in
    record { filled_or_kept = filled_or_kept (bytes_listed a.ticket (length a.out.now)) c.pel_design_ticket.ensures c.pel_design_ticket.auto.out; ticket_totals = ticket_totals a.ticket c.pel_design_ticket.ensures; ticket_mirrors = ticket_mirrors a.ticket c.pel_design_ticket.ensures }
