-- Readings of a few records, worked out: each refusal in its order, an unused beta, a NaN's payload, a card of two
-- tickets. Assumes nothing.
use Rattle.std.specs.Prelude.{◌≡◌, refl, List, [], ◌∷◌, ◌++◌, ℕ, length, take, Err, Result}
use Rattle.std.proofs.Common.{lit<}
use Rattle.wire.specs.Bytes.{bytes_of, number_of}
use Rattle.verdict.specs.Report as Told
use Rattle.verdict.specs.declared.Reason.{Reason}
use Rattle.verdict.specs.declared.Refusal.{Refusal}
use Rattle.verdict.specs.declared.Refusal.TheVariants.{Plain}
use Rattle.ticket_kinds.specs.Kinds.{field_count, window_taken, ticket_of}
use Rattle.ticket_kinds.specs.declared.TicketWindow.TheVariants.{Hann}
use Rattle.ticket_kinds.specs.declared.Ticket.{Ticket}
use Rattle.ticket_kinds.specs.declared.Ticket.TheVariants.{Lowpass, Halfband}
use Rattle.ticket_card.specs.declared.Reading.{Reading}
use Rattle.ticket_card.specs.Card.{fields_in, following, refused, read_of, found}
use Rattle.ticket_card.specs.Cards.{CardReads, breaks, next}
use Rattle.verdict.specs.declared.Reason.TheVariants as Reason

-- refused for a reason, whose number is the one that the header has
abbrev IsRefused : Result Reading Refusal → Reason → ℕ → Type 0
IsRefused r why number = (r ≡ refused why) × (Told.number_of why ≡ number)

-- a record as its bytes: the length of what follows, the kind, the fields
unfoldable field_bytes : List ℕ → List ℕ
field_bytes [] = []
field_bytes (x ∷ xs) = bytes_of 8 x ++ field_bytes xs

abbrev bytes_for : ℕ → List ℕ → List ℕ
bytes_for k xs = bytes_of 4 (following (length xs)) ++ (bytes_of 2 k ++ field_bytes xs)

five_bytes : IsRefused (read_of (42 ∷ 0 ∷ 0 ∷ 0 ∷ 1 ∷ [])) Reason.CutShort 12
unfolding read_of
five_bytes = (refl, refl)

-- the kind is tested before the length, and the length before the body; nothing is added to a length of 2^32 − 1
kind_seven : IsRefused (read_of (255 ∷ 255 ∷ 255 ∷ 255 ∷ 7 ∷ 0 ∷ [])) Reason.Kind 13
unfolding read_of field_count number_of
kind_seven = (refl, refl)

longest : IsRefused (read_of (255 ∷ 255 ∷ 255 ∷ 255 ∷ 1 ∷ 0 ∷ [])) Reason.RecordLength 14
unfolding read_of field_count number_of
longest = (refl, refl)

no_body : IsRefused (read_of (42 ∷ 0 ∷ 0 ∷ 0 ∷ 1 ∷ 0 ∷ [])) Reason.CutShort 12
unfolding read_of field_count number_of
no_body = (refl, refl)

-- a window's code above 3 is tested last
window_four : IsRefused (read_of (bytes_for 1 (1 ∷ 2 ∷ 4 ∷ 0 ∷ 5 ∷ []))) Reason.Code 7
unfolding read_of field_count number_of bytes_of field_bytes fields_in window_taken
window_four = (refl, refl)

window_four_short : IsRefused (read_of (take 45 (bytes_for 1 (1 ∷ 2 ∷ 4 ∷ 0 ∷ 5 ∷ [])))) Reason.CutShort 12
unfolding read_of field_count number_of bytes_of field_bytes
window_four_short = (refl, refl)

-- a Hann window drops its beta
abbrev hann : Ticket
hann = Lowpass (record { cutoff = 1; rate = 2; window = Hann; count = 5 })

unused_beta : read_of (bytes_for 1 (1 ∷ 2 ∷ 0 ∷ 9 ∷ 5 ∷ [])) ≡ found hann 46
unfolding read_of field_count number_of bytes_of field_bytes fields_in window_taken ticket_of
unused_beta = refl

-- a beta of 7FF0000000000001 is judged where the ticket is designed, and kept until then
abbrev payload : Ticket
payload = Halfband (record { beta = 9218868437227405313; count = 5 })

payload_kept : read_of (bytes_for 3 (9218868437227405313 ∷ 5 ∷ [])) ≡ found payload 22
unfolding read_of field_count number_of bytes_of field_bytes fields_in window_taken ticket_of
payload_kept = refl

-- two tickets and five bytes: the card is broken at byte 68
abbrev card : List ℕ
card = bytes_for 3 (9218868437227405313 ∷ 5 ∷ []) ++ (bytes_for 1 (1 ∷ 2 ∷ 0 ∷ 9 ∷ 5 ∷ []) ++ (18 ∷ 0 ∷ 0 ∷ 0 ∷ 3 ∷ []))

two_tickets : CardReads card (payload ∷ hann ∷ []) 68 (Err (Plain Reason.CutShort)) × (Told.number_of Reason.CutShort ≡ 12)
unfolding read_of field_count number_of bytes_of field_bytes fields_in window_taken ticket_of
two_tickets = (next {t = payload} {k = 22} refl (next {t = hann} {k = 46} refl (breaks (lit< tt) refl)), refl)
