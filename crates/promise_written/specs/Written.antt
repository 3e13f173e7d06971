-- What a caller of `pel_write_ticket` holds afterwards, and what a reader and a writer are to each other. Definitions
-- only.
use Rattle.std.specs.Prelude.{ℕ, ◌≡◌, List, ◌++◌, length, take, Err, Ok, Result}
use Rattle.verdict.specs.declared.Report.{Report}
use Rattle.ticket_kinds.specs.Kinds.{numbers_of, formed_of}
use Rattle.ticket_kinds.specs.declared.Ticket.{Ticket}
use Rattle.ticket_kinds.specs.declared.Ticket.TheVariants.{Lowpass, Spec, Halfband, Gaussian, Rrc, Channelizer}
use Rattle.ticket_kinds.specs.declared.numbers.Numbers.{Numbers}
use Rattle.ticket_card.specs.Card.{read_of}
use Rattle.ticket_record.specs.Record.{record_of}
use Rattle.c_card.specs.Cards.{no_ticket, told_of}
use Rattle.c_card.specs.Writing.{written_for}
use Rattle.c_card.specs.declared.reading.TicketRead.{TicketRead}
use Rattle.promise_refusals.specs.Demand.{Numbered}
use Rattle.promise_written.specs.Records.{HasUnused, UnusedZero, zeroed}
use Rattle.verdict.specs.declared.Refusal.{Refusal}

-- the numbers of a ticket without what nobody looks at: fields past the kind's, a beta that the window doesn't take;
-- `WrittenWhole` has that they are taken for this very ticket again
abbrev pub own_numbers : Result Ticket Refusal → Numbers
own_numbers (Ok t) = numbers_of t
own_numbers (Err why) = no_ticket

-- a kind and five fields
abbrev pub numbers : ℕ → ℕ → ℕ → ℕ → ℕ → ℕ → Numbers
numbers kind first second third fourth fifth = record { kind = kind; first = first; second = second; third = third; fourth = fourth; fifth = fifth }

-- how many bytes the record of each kind takes
abbrev pub bytes_taken : Ticket → ℕ
bytes_taken (Lowpass t) = 46
bytes_taken (Spec t) = 46
bytes_taken (Halfband t) = 22
bytes_taken (Gaussian t) = 30
bytes_taken (Rrc t) = 30
bytes_taken (Channelizer t) = 46

-- ---- demand 1: the record of the ticket whole in the buffer, or a number and the buffer as it came
pub record WrittenWhole (n : Numbers) (r : Report) (after : List ℕ) : Type 0 where
  pub ticket : Ticket
  pub formed : formed_of n ≡ Ok ticket
  pub again : formed_of (own_numbers (formed_of n)) ≡ Ok ticket
  pub bytes : after ≡ record_of ticket
  pub count : r.count ≡ length after
  pub taken : r.count ≡ bytes_taken ticket

pub record WrittenOrKept (n : Numbers) (before : List ℕ) (r : Report) (after : List ℕ) : Type 0 where
  pub told : Numbered (written_for (formed_of n) (length before)) r.number
  pub written : r.number ≡ 0 → WrittenWhole n r after
  pub kept : (r.number ≡ 0 → ⊥) → after ≡ before
  pub size : length after ≡ length before

-- ---- "what is written reads back to that ticket": what `pel_read_ticket` answers then is the ticket's numbers and the
-- report that the writer gave, so that as many bytes are read as were written
abbrev pub ReadAs : Numbers → Report → TicketRead → Type 0
ReadAs n r read = r.number ≡ 0 → read ≡ record { ticket = own_numbers (formed_of n); report = r }

-- whatever follows the record
abbrev pub ReadsBack : Numbers → Report → List ℕ → Type 0
ReadsBack n r after = (rest : List ℕ) → ReadAs n r (told_of (read_of (after ++ rest)))

-- ---- "a record whose unused beta, if it has one, is all zero bits is written back byte for byte": a ticket that
-- `pel_read_ticket` read from the bytes s, written into a buffer of as many bytes as its record took
pub record WrittenBack (s : List ℕ) (read : TicketRead) (r : Report) (after : List ℕ) : Type 0 where
  -- what is told is what the reader told
  pub told : r ≡ read.report
  pub bytes : UnusedZero s → after ≡ take r.count s
  -- an unused beta becomes zeros, and every other byte is as it was
  pub unused : HasUnused s → after ≡ zeroed (take r.count s)
  -- either way the same ticket is read again, whatever follows
  pub again : (rest : List ℕ) → told_of (read_of (after ++ rest)) ≡ read

abbrev pub WritesBack : List ℕ → TicketRead → List ℕ → Report → List ℕ → Type 0
WritesBack s read before r after = read.report.number ≡ 0 → length before ≡ read.report.count → WrittenBack s read r after
