-- What reading the bytes of a card finds. Definitions only.
-- "A record is a four-byte length of what follows, then a two-byte kind, then fields of eight bytes, all
-- little-endian."
use Rattle.std.specs.Prelude.{ℕ, zero, suc, ◌+◌, ◌*◌, List, [], ◌∷◌, cond, eqb, ltb, leb, length, take, drop, Ok, Err, Result}
use Rattle.wire.specs.Bytes.{number_of}
use Rattle.verdict.specs.declared.Reason.{Reason}
use Rattle.ticket_kinds.specs.declared.Ticket.{Ticket}
use Rattle.verdict.specs.declared.Refusal.TheVariants.{Plain}
use Rattle.ticket_kinds.specs.Kinds.{field_count, window_taken, ticket_of}
use Rattle.ticket_card.specs.declared.Reading.{Reading}
use Rattle.verdict.specs.declared.Refusal.{Refusal}

-- ---- what stands where
abbrev pub length_in : List ℕ → ℕ
length_in d = number_of (take 4 d)

abbrev pub kind_in : List ℕ → ℕ
kind_in d = number_of (take 2 (drop 4 d))

-- the numbers in n fields of eight bytes
unfoldable pub fields_in : ℕ → List ℕ → List ℕ
fields_in zero d = []
fields_in (suc n) d = number_of (take 8 d) ∷ fields_in n (drop 8 d)

-- what n fields take with the kind, and with the length too
abbrev pub following : ℕ → ℕ
following n = 2 + 8 * n

abbrev pub record_length : ℕ → ℕ
record_length n = 6 + 8 * n

-- ---- reading
abbrev pub refused : Reason → Result Reading Refusal
refused why = Err (Plain why)

-- a ticket, and how many bytes its record takes
abbrev pub found : Ticket → ℕ → Result Reading Refusal
found t k = Ok (record { ticket = t; taken = k })

-- "fewer than six bytes is 12, then 13, 14, and 12 for a short body. A window field above 3 is 7, tested last": k is
-- the kind and n the number of its fields
abbrev pub read_kind : ℕ → ℕ → List ℕ → Result Reading Refusal
read_kind k n d =
    let xs = fields_in n (drop 6 d) in
    cond (eqb n 0) (refused Reason.Kind)
    (cond (eqb (length_in d) (following n))
    (cond (leb (record_length n) (length d))
    (cond (window_taken k xs) (found (ticket_of k xs) (record_length n)) (refused Reason.Code))
    (refused Reason.CutShort))
    (refused Reason.RecordLength))

unfoldable pub read_of : List ℕ → Result Reading Refusal
read_of d = cond (ltb (length d) 6) (refused Reason.CutShort) (read_kind (kind_in d) (field_count (kind_in d)) d)

-- how many bytes were read: none where there is no ticket, so that all of them stay unread
abbrev pub taken_of : Result Reading Refusal → ℕ
taken_of (Ok r) = r.taken
taken_of (Err why) = 0
