-- A ticket as a record of a card, and what writing it answers and leaves in the buffer. Definitions only.
use Rattle.std.specs.Prelude.{ℕ, ◌≡◌, cond, List, [], ◌∷◌, ◌++◌, eqb, length, Err, Ok, Result}
use Rattle.wire.specs.Bytes.{bytes_of}
use Rattle.verdict.specs.declared.Refusal.TheVariants.{Plain, Length}
use Rattle.ticket_kinds.specs.Kinds.{kind_of, fields_of, has_code}
use Rattle.ticket_kinds.specs.declared.Ticket.{Ticket}
use Rattle.ticket_kinds.specs.declared.numbers.Numbers.{Numbers}
use Rattle.ticket_card.specs.Card.{following}
use Rattle.verdict.specs.declared.Refusal.{Refusal}
use Rattle.verdict.specs.declared.Reason.TheVariants as Reason

-- ---- the bytes
unfoldable pub field_bytes : List ℕ → List ℕ
field_bytes [] = []
field_bytes (x ∷ xs) = bytes_of 8 x ++ field_bytes xs

-- "a four-byte length of what follows, then a two-byte kind, then fields of eight bytes, all little-endian"
abbrev pub record_bytes : ℕ → List ℕ → List ℕ
record_bytes k xs = bytes_of 4 (following (length xs)) ++ (bytes_of 2 k ++ field_bytes xs)

-- the kind's own fields; `fields_of` has "beta all zero bits where the window isn't Kaiser"
abbrev pub record_of : Ticket → List ℕ
record_of t = record_bytes (kind_of t) (fields_of t)

-- the fields as C has them, those that the kind hasn't at the end
abbrev pub field_list : Numbers → List ℕ
field_list n = n.first ∷ n.second ∷ n.third ∷ n.fourth ∷ n.fifth ∷ []

-- ---- writing
-- "a loaded window can't be written and gives 7, tested first; a buffer of another length gives 8": for len bytes
unfoldable pub write_of : Ticket → ℕ → Result (Unit {0}) Refusal
write_of t len =
    let size = length (record_of t) in
    cond (has_code t) (cond (eqb len size) (Ok tt) (Err (Length size len))) (Err (Plain Reason.Code))

-- "and is untouched": the record where it was written, else the buffer as it came
abbrev pub left_by : Result (Unit {0}) Refusal → Ticket → List ℕ → List ℕ
left_by (Ok tt) t d = record_of t
left_by (Err why) t d = d

-- the answer, and the buffer afterwards
pub record WritesRecord (t : Ticket) (before : List ℕ) (r : Result (Unit {0}) Refusal) (after : List ℕ) : Type 0 where
  pub answer : r ≡ write_of t (length before)
  pub buffer : after ≡ left_by (write_of t (length before)) t before
