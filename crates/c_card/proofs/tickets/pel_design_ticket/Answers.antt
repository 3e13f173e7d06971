-- `c_card::tickets::pel_design_ticket` meets its contract, a ticket and none. Assumes nothing.
use Rattle.std.specs.Prelude.{Result}
use mathlib.Core.Path.{sym, ap, ◌∙◌}
use lib.ListN.{length}
use Rattle.wire.proofs.WritesLaws.{leaves, writes_same}
use Rattle.c_card.specs.Tickets.{bytes_for}
use Rattle.c_card.proofs.tickets.pel_design_ticket.Goals as goal
use Rattle.verdict.specs.declared.Refusal.{Refusal}
use Rattle.ticket_kinds.specs.declared.Ticket.{Ticket}

pub returns-in-Ok : goal.returns-in-Ok
returns-in-Ok c =
    let len = length c.args.out.now in
    writes_same (ap (λ (f : Result Ticket Refusal). bytes_for f len) (sym c.in-Ok.is ∙ c.try_from.ensures)) c.design.ensures

pub returns-in-Err : goal.returns-in-Err
returns-in-Err c =
    let len = length c.args.out.now in
    leaves (ap (λ (f : Result Ticket Refusal). bytes_for f len) (sym c.try_from.ensures ∙ c.in-Err.is)) c.from.ensures
