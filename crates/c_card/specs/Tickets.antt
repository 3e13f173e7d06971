-- What comes of the numbers of a ticket: why they are none, or what comes of the ticket. Definitions only.
use Rattle.std.specs.Prelude.{ℕ, Err, Ok, Result}
use Rattle.verdict.specs.Outcome.{Outcome}
use Rattle.ticket_design.specs.Design.{ticket_bytes, judgement_of}
use Rattle.ticket_kinds.specs.declared.Ticket.{Ticket}
use Rattle.verdict.specs.declared.Refusal.{Refusal}

abbrev pub judged_for : Result Ticket Refusal → Outcome
judged_for (Ok t) = judgement_of t
judged_for (Err why) = Outcome.Refused why

-- for a buffer of len bytes
abbrev pub bytes_for : Result Ticket Refusal → ℕ → Outcome
bytes_for (Ok t) len = ticket_bytes t len
bytes_for (Err why) len = Outcome.Refused why
