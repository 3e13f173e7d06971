-- A record on a card whose ticket meets every premise of the totals, so that what they promise of tickets is not empty:
-- a Hann low-pass of five taps, cutoff 0.25 at the rate 1. Assumes nothing.
use Rattle.std.specs.Prelude.{◌≡◌, refl, List, ◌++◌, ℕ, T, length, Float, Some}
use Rattle.std.proofs.Common.{sym, ap, ◌∙◌, subst, arith}
use Rattle.std.specs.Float.Ieee.{of_bits, of_int, round}
use Rattle.laws.specs.Binary64.{whole, fraction}
use Rattle.wire.specs.Bytes.{bytes_of, number_of}
use Rattle.verdict.specs.Outcome.{Outcome}
use Rattle.fir_sinc.specs.declared.window.Window.TheVariants as Window
use Rattle.ticket_codes.specs.Codes.{window_of}
use Rattle.ticket_kinds.specs.Kinds.{field_count, window_taken, ticket_of}
use Rattle.ticket_kinds.specs.declared.TicketWindow.TheVariants.{Hann}
use Rattle.ticket_kinds.specs.declared.Ticket.{Ticket}
use Rattle.ticket_kinds.specs.declared.Ticket.TheVariants.{Lowpass}
use Rattle.ticket_card.specs.Card.{fields_in, read_of, found}
use Rattle.ticket_design.specs.Design.{float, ticket_outcome, ticket_bytes}
use Rattle.c_lowpass.specs.Lowpass.{lowpass_bytes}
use Rattle.promise_totals.proofs.WrittenLaws.{of_writes}
use Rattle.promise_totals.proofs.MetTickets.{met, lowpass_ticket, lowpass_met, Stands, itself, stands, of_size}
use Rattle.promise_card.specs.TicketsLaws.{ticket_sound}

-- 3FD0000000000000 and 3FF0000000000000
abbrev quarter : ℕ
quarter = 4598175219545276416

abbrev one : ℕ
one = 4607182418800017408

abbrev five : Ticket
five = Lowpass (record { cutoff = quarter; rate = one; window = Hann; count = 5 })

-- it is read from 46 bytes
pub five_read : read_of (bytes_of 4 42 ++ (bytes_of 2 1 ++ (bytes_of 8 quarter ++ (bytes_of 8 one ++ (bytes_of 8 0 ++ (bytes_of 8 0 ++ bytes_of 8 5)))))) ≡ found five 46
unfolding read_of field_count number_of bytes_of fields_in window_taken ticket_of
five_read = refl

-- and designed into 40
at_quarter : float quarter ≡ fraction 1 4
unfolding of_bits round
at_quarter = refl

at_one : float one ≡ whole 1
unfolding of_bits of_int round
at_one = refl

same : ticket_bytes five 40 ≡ lowpass_ticket 40
unfolding ticket_outcome window_of
same = ap (λ (x : Float). lowpass_bytes x (float one) (Some Window.Hann) 40) at_quarter ∙ ap (λ (x : Float). lowpass_bytes (fraction 1 4) x (Some Window.Hann) 40) at_one

pub five_stands : (before : List ℕ) → length before ≡ 40 → Stands (ticket_bytes five (length before)) before
five_stands before e =
    let sound = ticket_sound five (length before) (λ k. unlike k) in
    stands (ticket_bytes five (length before)) before sound (of_size (ticket_bytes five) 40 before e (subst (λ (o : Outcome). T (met o)) (sym same) lowpass_met)) (of_writes sound (itself {o = ticket_bytes five (length before)} {before = before}))
  where
    unlike : ◌≡◌ {A = ℕ} 1 5 → ⊥
    unlike h = omega arith
