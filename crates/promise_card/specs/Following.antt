-- What follows a record on a card doesn't matter: it is read alike alone, before anything else, and cut off behind it.
-- Assumes nothing.
use Rattle.std.specs.Prelude.{◌≡◌, refl, List, ◌++◌, ℕ, zero, suc, ◌*◌, ◌≤◌, length, take, drop}
use Rattle.std.proofs.Common.{sym, ap, ◌∙◌, subst, le_of_eq, arith, length-append, length-drop, take-append-drop, length-take-le}
use Rattle.std.proofs.lemmas.List.{take-append-le, drop-append-le}
use Rattle.wire.specs.Bytes.{number_of}
use Rattle.ticket_kinds.specs.Kinds.{field_count, ticket_of, window_taken}
use Rattle.ticket_kinds.specs.declared.Ticket.{Ticket}
use Rattle.ticket_card.specs.Card.{fields_in, following, record_length, length_in, kind_in, read_of, found}
use Rattle.ticket_card.specs.Readings.{numbers_in, Begins, read_begins, begins_read, read_there}

-- what follows the fields doesn't matter
fields_append : (n : ℕ) (a rest : List ℕ) → 8 * n ≤ length a → fields_in n (a ++ rest) ≡ fields_in n a
unfolding fields_in
fields_append zero a rest h = refl
fields_append (suc n) a rest h =
    rw (
      take-append-le 8 a rest (omega arith),
      drop-append-le 8 a rest (omega arith),
      fields_append n (drop 8 a) rest (omega (arith, length-drop 8 a)),
    )

-- ---- what follows a record doesn't matter
module _ (p s : List ℕ) where
  length_front : 6 ≤ length p → length_in (p ++ s) ≡ length_in p
  length_front h = ap number_of (take-append-le 4 p s (omega arith))

  kind_front : 6 ≤ length p → kind_in (p ++ s) ≡ kind_in p
  kind_front h = ap (λ (l : List ℕ). number_of (take 2 l)) (drop-append-le 4 p s (omega arith)) ∙ ap number_of (take-append-le 2 (drop 4 p) s (omega (arith, length-drop 4 p)))

  numbers_front : record_length (field_count (kind_in p)) ≤ length p → numbers_in (p ++ s) ≡ numbers_in p
  numbers_front h =
      let n = field_count (kind_in p) in
      ap (λ (j : ℕ). fields_in (field_count j) (drop 6 (p ++ s))) (kind_front (omega arith))
      ∙ ap (fields_in n) (drop-append-le 6 p s (omega arith))
      ∙ fields_append n (drop 6 p) s (omega (arith, length-drop 6 p))

  begins_more : (t : Ticket) (k : ℕ) → Begins p t k → Begins (p ++ s) t k
  begins_more t k b =
      let l = length-append p s in
      let h = b.six in
      let a = b.there in
      record {
        six = omega arith;
        known = rw (kind_front h) b.known;
        exact = rw (kind_front h, length_front h) b.exact;
        there = rw (kind_front h) (omega arith);
        window = rw (numbers_front a, kind_front h) b.window;
        ticket = rw (numbers_front a, kind_front h) b.ticket;
        taken = rw (kind_front h) b.taken;
      }

  begins_less : (t : Ticket) (k : ℕ) → k ≤ length p → Begins (p ++ s) t k → Begins p t k
  begins_less t k q b =
      let c = b.taken in
      let h : 6 ≤ length p = omega arith in
      let e = kind_front h in
      let m : record_length (field_count (kind_in p)) ≡ k = rw (← e) c in
      let a : record_length (field_count (kind_in p)) ≤ length p = rw m q in
      record {
        six = h;
        known = rw (← e) b.known;
        exact = sym (length_front h) ∙ b.exact ∙ ap (λ (j : ℕ). following (field_count j)) e;
        there = a;
        window = sym (ap (λ (j : ℕ). window_taken j (numbers_in p)) e) ∙ ap (window_taken (kind_in (p ++ s))) (sym (numbers_front a)) ∙ b.window;
        ticket = sym (ap (λ (j : ℕ). ticket_of j (numbers_in p)) e) ∙ ap (ticket_of (kind_in (p ++ s))) (sym (numbers_front a)) ∙ b.ticket;
        taken = m;
      }

-- bytes behind it
pub read_more : (d s : List ℕ) (t : Ticket) (k : ℕ) → read_of d ≡ found t k → read_of (d ++ s) ≡ found t k
read_more d s t k e = begins_read (d ++ s) t k (begins_more d s t k (read_begins d t k e))

-- and other bytes in their place
pub read_only : (d s : List ℕ) (t : Ticket) (k : ℕ) → read_of d ≡ found t k → read_of (take k d ++ s) ≡ found t k
read_only d s t k e =
    let b = read_begins d t k e in
    let w : Begins (take k d ++ drop k d) t k = subst (λ (l : List ℕ). Begins l t k) (sym (take-append-drop k d)) b in
    let p = begins_less (take k d) (drop k d) t k (le_of_eq (sym (length-take-le k d (read_there d t k e)))) w in
    begins_read (take k d ++ s) t k (begins_more (take k d) s t k p)
