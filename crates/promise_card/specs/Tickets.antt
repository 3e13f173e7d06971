-- Demands 1 and 3 of designed tickets, in their own words. Definitions only.
use Rattle.std.specs.Prelude.{ℕ, ◌≡◌, List, length}
use Rattle.verdict.specs.declared.Report.{Report}
use Rattle.wire.specs.Bytes.{float_bytes}
use Rattle.wire.specs.Writes.{Writes}
use Rattle.ticket_kinds.specs.declared.Ticket.{Ticket}
use Rattle.ticket_card.specs.Card.{read_of, found}
use Rattle.ticket_design.specs.Design.{ticket_bytes}
use Rattle.promise_totals.specs.Written.{Totals}
use Rattle.promise_totals.specs.Filter.{Filters}
use Rattle.promise_totals.specs.Mirror.{Mirrored, Vanishes}

-- a root-raised cosine, which isn't divided by its sum, has no total
abbrev pub Divided : ℕ → Type 0
Divided kind = kind ≡ 5 → ⊥

-- the two totals of a ticket of a kind, of its report and its bytes
abbrev pub TicketTotals : ℕ → Report → List ℕ → Type 0
TicketTotals kind r after = Divided kind → Totals r after

-- and of the 16-bit numbers that a conversion made of these
abbrev pub TicketFilters : ℕ → Report → List ℕ → Report → List ℕ → Type 0
TicketFilters kind r taps c codes = Divided kind → Filters r taps c codes

-- the taps of a half-band's ticket mirror to the bit, and are zero where half-bands are zero
pub record TicketMirrors (kind : ℕ) (r : Report) (after : List ℕ) : Type 0 where
  pub mirrored : kind ≡ 3 → Mirrored r after
  pub zeros : kind ≡ 3 → Vanishes r after

-- a ticket that the bytes s hold was designed into a buffer: what is told and left is what comes of that ticket
abbrev pub DesignsRead : List ℕ → List ℕ → Report → List ℕ → Type 0
DesignsRead s before r after = (t : Ticket) (k : ℕ) → read_of s ≡ found t k → Writes float_bytes (ticket_bytes t (length before)) before r after
