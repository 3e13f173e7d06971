-- What C hears of a record that is read and of a card that is checked. Definitions only.
use Rattle.std.specs.Prelude.{ℕ, ◌≡◌, List, length, Result, Ok, Err}
use Rattle.laws.specs.Binary64.{whole}
use Rattle.verdict.specs.Report.{report_of, accepted_of}
use Rattle.verdict.specs.Reports.{done_report}
use Rattle.ticket_kinds.specs.Kinds.{numbers_of}
use Rattle.ticket_kinds.specs.declared.Ticket.{Ticket}
use Rattle.ticket_kinds.specs.declared.numbers.Numbers.{Numbers}
use Rattle.ticket_card.specs.Cards.{CardReads}
use Rattle.ticket_card.specs.declared.Reading.{Reading}
use Rattle.c_card.specs.declared.reading.TicketRead.{TicketRead}
use Rattle.c_card.specs.declared.reading.CardChecked.{CardChecked}
use Rattle.verdict.specs.declared.Refusal.{Refusal}

-- no ticket
abbrev pub no_ticket : Numbers
no_ticket = record { kind = 0; first = 0; second = 0; third = 0; fourth = 0; fifth = 0 }

-- the bytes that the record takes are the count
abbrev pub told_of : Result Reading Refusal → TicketRead
told_of (Ok r) = record { ticket = numbers_of r.ticket; report = accepted_of r.taken (whole 0) }
told_of (Err why) = record { ticket = no_ticket; report = report_of why }

-- the card holds these tickets; reading ended at this byte, as the report says
pub record ChecksCard (d : List ℕ) (r : CardChecked) : Type 0 where
  pub held : List Ticket
  pub ended : Result (Unit {0}) Refusal
  pub tickets : r.tickets ≡ length held
  pub reads : CardReads d held r.place ended
  pub report : r.report ≡ done_report (length held) ended
