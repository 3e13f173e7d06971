-- `promise_calls::written::write_ticket` meets its contract: what its export ensures, by demand 1. Assumes nothing.
use Rattle.promise_written.specs.WrittenLaws.{written_or_kept}
use Rattle.promise_calls.proofs.written.write_ticket.Goals as goal

pub returns : goal.returns
returns c =
    let a = c.args in
    written_or_kept a.ticket c.pel_write_ticket.ensures c.pel_write_ticket.auto.out
