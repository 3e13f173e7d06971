-- Records worked out byte by byte, so that what is promised of them is not empty: each kind, a NaN's payload, a beta
-- that nobody looks at, and what is refused. Assumes nothing.
use Rattle.std.specs.Prelude.{◌≡◌, refl, List, [], ◌∷◌, ◌++◌, ℕ, replicate, Err, Ok, Result}
use Rattle.wire.specs.Bytes.{bytes_of, number_of}
use Rattle.win_shapes.specs.declared.cosines.Cosines.{Cosines}
use Rattle.verdict.specs.Report as Told
use Rattle.verdict.specs.declared.Refusal.TheVariants.{Plain, Length}
use Rattle.ticket_kinds.specs.Kinds.{field_count, window_taken, ticket_of, formed_of}
use Rattle.ticket_kinds.specs.declared.TicketWindow.TheVariants.{Hann, Loaded}
use Rattle.ticket_kinds.specs.declared.Ticket.{Ticket}
use Rattle.ticket_kinds.specs.declared.Ticket.TheVariants.{Lowpass, Halfband}
use Rattle.ticket_card.specs.Card.{fields_in, read_of, found}
use Rattle.ticket_record.specs.Record.{field_bytes, record_of, write_of}
use Rattle.c_card.specs.Writing.{written_for, left_for}
use Rattle.promise_written.specs.Records.{zeroed}
use Rattle.promise_written.specs.Written.{numbers}
use Rattle.verdict.specs.declared.Refusal.{Refusal}
use Rattle.verdict.specs.declared.Reason.TheVariants as Reason

-- ---- what is written
-- the bytes of a field that is below 256, and of a record with such fields: the length, the kind, and these
abbrev field : ℕ → List ℕ
field n = n ∷ replicate 7 0

abbrev head : ℕ → ℕ → List ℕ → List ℕ
head len kind fields = len ∷ 0 ∷ 0 ∷ 0 ∷ kind ∷ 0 ∷ fields

-- what stands in a buffer of so many sevens when the fields 1 to 5 were written into it
abbrev filled : ℕ → ℕ → List ℕ
filled kind bytes = left_for (formed_of (numbers kind 1 2 3 4 5)) (replicate bytes 7)

every_kind : filled 1 46 ∷ filled 2 46 ∷ filled 3 22 ∷ filled 4 30 ∷ filled 5 30 ∷ filled 6 46 ∷ []
    ≡ head 42 1 (field 1 ++ (field 2 ++ (field 3 ++ (field 4 ++ field 5))))
    ∷ head 42 2 (field 1 ++ (field 2 ++ (field 3 ++ (field 4 ++ field 5))))
    ∷ head 18 3 (field 1 ++ field 2)
    ∷ head 26 4 (field 1 ++ (field 2 ++ field 3))
    ∷ head 26 5 (field 1 ++ (field 2 ++ field 3))
    ∷ head 42 6 (field 1 ++ (field 2 ++ (field 3 ++ (field 4 ++ field 5))))
    ∷ []
unfolding bytes_of field_bytes write_of formed_of field_count window_taken ticket_of
every_kind = refl

-- a half-band whose beta is 7FF0000000000001
abbrev payload : Ticket
payload = Halfband (record { beta = 9218868437227405313; count = 31 })

payload_written : record_of payload ≡ head 18 3 (1 ∷ 0 ∷ 0 ∷ 0 ∷ 0 ∷ 0 ∷ 240 ∷ 127 ∷ field 31)
unfolding bytes_of field_bytes
payload_written = refl

-- ---- a beta of 9 behind the code of a Hann window: from C's numbers, and read from a card
abbrev hann : Ticket
hann = Lowpass (record { cutoff = 1; rate = 2; window = Hann; count = 5 })

abbrev with_beta : ℕ → List ℕ
with_beta b = head 42 1 (field 1 ++ (field 2 ++ (field 0 ++ (field b ++ field 5))))

unused_given : left_for (formed_of (numbers 1 1 2 0 9 5)) (replicate 46 7) ≡ with_beta 0
unfolding bytes_of field_bytes write_of formed_of field_count window_taken ticket_of
unused_given = refl

unused_read : read_of (with_beta 9) ≡ found hann 46
unfolding read_of field_count number_of fields_in window_taken ticket_of
unused_read = refl

unused_written : record_of hann ∷ zeroed (with_beta 9) ∷ [] ≡ with_beta 0 ∷ with_beta 0 ∷ []
unfolding bytes_of field_bytes
unused_written = refl

-- ---- what is refused: a kind before a window, a window before a length; the record's length and no other
abbrev written : ℕ → ℕ → ℕ → Result (Unit {0}) Refusal
written kind window bytes = written_for (formed_of (numbers kind 1 2 window 4 5)) bytes

orders : (written 0 4 46 ∷ written 7 4 0 ∷ written 1 4 45 ∷ written 1 3 45 ∷ written 1 3 47 ∷ written 1 3 46 ∷ []
    ≡ Err (Plain Reason.Kind) ∷ Err (Plain Reason.Kind) ∷ Err (Plain Reason.Code) ∷ Err (Length 46 45) ∷ Err (Length 46 47) ∷ (Ok tt) ∷ [])
    × (Told.number_of Reason.Kind ≡ 13) × (Told.number_of Reason.Code ≡ 7)
unfolding bytes_of field_bytes write_of formed_of field_count window_taken ticket_of
orders = (refl, refl, refl)

loaded_first : (c : Cosines) → (write_of (Lowpass (record { cutoff = 1; rate = 2; window = Loaded c; count = 5 })) 45 ≡ Err (Plain Reason.Code)) × (Told.number_of Reason.Code ≡ 7)
unfolding write_of
loaded_first c = (refl, refl)
