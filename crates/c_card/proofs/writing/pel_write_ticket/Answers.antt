-- `c_card::writing::pel_write_ticket` meets its contract, a ticket and none. Assumes nothing.
use Rattle.std.specs.Prelude.{Result}
use mathlib.Core.Path.{sym, ap, ◌∙◌}
use lib.ListN.{length}
use Rattle.verdict.specs.Reports.{done_report}
use Rattle.c_card.specs.Writing.{written_for, left_for}
use Rattle.c_card.proofs.writing.pel_write_ticket.Goals as goal
use Rattle.verdict.specs.declared.Refusal.{Refusal}
use Rattle.ticket_kinds.specs.declared.Ticket.{Ticket}

pub returns-in-Ok : goal.returns-in-Ok
returns-in-Ok c =
    let d = c.args.out.now in
    let n = length d in
    let e = sym c.in-Ok.is ∙ c.try_from.ensures in
    record {
      answer = c.told_end.ensures ∙ ap (done_report n) (c.write-ended.ensures.answer ∙ ap (λ (f : Result Ticket Refusal). written_for f n) e);
      buffer = c.write-ended.ensures.buffer ∙ ap (λ (f : Result Ticket Refusal). left_for f d) e;
    }

pub returns-in-Err : goal.returns-in-Err
returns-in-Err c =
    let d = c.args.out.now in
    let n = length d in
    let e = sym c.in-Err.is ∙ c.try_from.ensures in
    record {
      answer = c.from.ensures ∙ ap (λ (f : Result Ticket Refusal). done_report n (written_for f n)) e;
      buffer = ap (λ (f : Result Ticket Refusal). left_for f d) e;
    }
