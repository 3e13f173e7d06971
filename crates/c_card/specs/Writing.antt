-- What C hears of a ticket that is written, and what stands in the buffer afterwards. Definitions only.
use Rattle.std.specs.Prelude.{ℕ, ◌≡◌, List, length, Err, Ok, Result}
use Rattle.verdict.specs.Reports.{done_report}
use Rattle.verdict.specs.declared.Report.{Report}
use Rattle.ticket_record.specs.Record.{write_of, left_by}
use Rattle.ticket_kinds.specs.declared.Ticket.{Ticket}
use Rattle.verdict.specs.declared.Refusal.{Refusal}

-- why the numbers are no ticket, or what comes of writing it: for a buffer of len bytes
abbrev pub written_for : Result Ticket Refusal → ℕ → Result (Unit {0}) Refusal
written_for (Ok t) len = write_of t len
written_for (Err why) len = Err why

-- the buffer afterwards: the ticket's record, or as it came
abbrev pub left_for : Result Ticket Refusal → List ℕ → List ℕ
left_for (Ok t) d = left_by (write_of t (length d)) t d
left_for (Err why) d = d

-- a record takes the whole buffer, so its bytes are the count
pub record WritesTicket (f : Result Ticket Refusal) (before : List ℕ) (r : Report) (after : List ℕ) : Type 0 where
  pub answer : r ≡ done_report (length before) (written_for f (length before))
  pub buffer : after ≡ left_for f before
