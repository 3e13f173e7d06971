-- The tests of the reader in their order: what each way out rests on. Assumes nothing.
use Rattle.std.specs.Prelude.{◌≡◌, refl, Bool, true, false, cond, List, ℕ, ◌≤◌, ◌<◌, eqb, length, drop, Err, Ok, Result}
use Rattle.std.proofs.Common.{◌∙◌, lt-ltb, le-ltb, le-leb, eq-eqb, ne_eqb}
use Rattle.std.proofs.lemmas.Bool.{lt-leb}
use Rattle.verdict.specs.declared.Refusal.TheVariants.{Plain}
use Rattle.ticket_kinds.specs.Kinds.{field_count, ticket_of, window_taken, formed}
use Rattle.ticket_card.specs.declared.Reading.{Reading}
use Rattle.ticket_card.specs.Card.{fields_in, following, record_length, length_in, kind_in, refused, read_kind, read_of, found}
use Rattle.ticket_kinds.specs.declared.Ticket.{Ticket}
use Rattle.verdict.specs.declared.Refusal.{Refusal}
use Rattle.verdict.specs.declared.Reason.TheVariants as Reason

pub too_short : (d : List ℕ) → length d < 6 → refused Reason.CutShort ≡ read_of d
unfolding read_of
too_short d h = rw (lt-ltb (length d) 6 h)

-- what is read of a record that is there, by the tests of its numbers
abbrev pub read_as : ℕ → Result Ticket Refusal → Result Reading Refusal
read_as size (Ok t) = found t size
read_as size (Err why) = Err why

last_test : (k size : ℕ) (xs : List ℕ) → eqb (field_count k) 0 ≡ false → read_as size (formed k xs) ≡ cond (window_taken k xs) (found (ticket_of k xs) size) (refused Reason.Code)
last_test k size xs e = rw e (go (window_taken k xs))
  where
    go : (b : Bool) → read_as size (cond b (Ok (ticket_of k xs)) (Err (Plain Reason.Code))) ≡ cond b (found (ticket_of k xs) size) (refused Reason.Code)
    go true = refl
    go false = refl

-- six bytes are there, k is the kind and n the number of its fields
module _ (d : List ℕ) (k n : ℕ) (kind : k ≡ kind_in d) (count : n ≡ field_count k) (six : 6 ≤ length d) where
  onward : read_kind k n d ≡ read_of d
  unfolding read_of
  onward = rw (le-ltb (length d) 6 six, ← kind, ← count)

  pub unknown : n ≡ 0 → refused Reason.Kind ≡ read_of d
  unknown h = rw (← onward, eq-eqb n 0 h)

  module _ (some : n ≡ 0 → ⊥) where
    pub wrong_length : (length_in d ≡ following n → ⊥) → refused Reason.RecordLength ≡ read_of d
    wrong_length h = rw (← onward, ne_eqb n 0 some, ne_eqb (length_in d) (following n) h)

    module _ (exact : length_in d ≡ following n) where
      pub cut_off : length d < record_length n → refused Reason.CutShort ≡ read_of d
      cut_off h = rw (← onward, ne_eqb n 0 some, eq-eqb (length_in d) (following n) exact, lt-leb (record_length n) (length d) h)

      pub there : record_length n ≤ length d → read_as (record_length n) (formed k (fields_in n (drop 6 d))) ≡ read_of d
      there h = last_test k (record_length n) (fields_in n (drop 6 d)) (rw (← count) (ne_eqb n 0 some)) ∙ rw (← onward, ne_eqb n 0 some, eq-eqb (length_in d) (following n) exact, le-leb (record_length n) (length d) h)
