-- Demand 1 of the reader, in its own words: what a caller of `pel_read_ticket` and of `pel_check_card` holds
-- afterwards. Definitions only.
use Rattle.std.specs.Prelude.{ℕ, ◌<◌, ◌≡◌, List, length, drop, Err, Ok, Result}
use Rattle.ticket_kinds.specs.Kinds.{numbers_of, formed_of}
use Rattle.ticket_kinds.specs.declared.Ticket.{Ticket}
use Rattle.ticket_card.specs.declared.Reading.{Reading}
use Rattle.ticket_card.specs.Card.{read_of, found}
use Rattle.ticket_card.specs.Cards.{CardReads}
use Rattle.c_card.specs.Cards.{no_ticket, told_of}
use Rattle.c_card.specs.declared.reading.TicketRead.{TicketRead}
use Rattle.c_card.specs.declared.reading.CardChecked.{CardChecked}
use Rattle.promise_refusals.specs.Demand.{Numbered}
use Rattle.verdict.specs.declared.Refusal.{Refusal}

abbrev pub of_reading : Result Reading Refusal → Result (Unit {0}) Refusal
of_reading (Ok r) = Ok tt
of_reading (Err why) = Err why

-- a ticket that the bytes s hold: its numbers are those told, which are taken for that very ticket again, and the
-- record takes as many bytes as told
pub record Held (s : List ℕ) (r : TicketRead) : Type 0 where
  pub ticket : Ticket
  pub read : read_of s ≡ found ticket r.report.count
  pub numbers : r.ticket ≡ numbers_of ticket
  pub again : formed_of r.ticket ≡ Ok ticket

-- a ticket whole, or none and a number
pub record ReadOrNone (s : List ℕ) (r : TicketRead) : Type 0 where
  pub told : Numbered (of_reading (read_of s)) r.report.number
  pub held : r.report.number ≡ 0 → Held s r
  pub none : (r.report.number ≡ 0 → ⊥) → r.ticket ≡ no_ticket

-- a card read to its end, or to the first place where no record stands: the records before it are whole, and it is
-- refused as `pel_read_ticket` refuses the bytes from there on
pub record CheckedCard (s : List ℕ) (r : CardChecked) : Type 0 where
  pub held : List Ticket
  pub ended : Result (Unit {0}) Refusal
  pub reads : CardReads s held r.place ended
  pub tickets : r.tickets ≡ length held
  pub told : Numbered ended r.report.number
  pub whole : r.report.number ≡ 0 → r.place ≡ length s
  pub broken : (r.report.number ≡ 0 → ⊥) → (r.place < length s) × ((told_of (read_of (drop r.place s))).report ≡ r.report)
