-- What a reading that found a ticket tells of the bytes, and the other way. Assumes nothing.
use Rattle.std.specs.Prelude.{◌≡◌, refl, Bool, true, false, cond, List, ℕ, ◌≤◌, eqb, length, drop, Err, Result}
use Rattle.std.proofs.Common.{ap, arith, ltb-false, leb-true, eqb-true, le-ltb, le-leb, eq-eqb}
use Rattle.laws.specs.Results.{refused_never, same_answer}
use Rattle.verdict.specs.declared.Refusal.{Refusal}
use Rattle.ticket_kinds.specs.declared.Ticket.{Ticket}
use Rattle.ticket_card.specs.declared.Reading.{Reading}
use Rattle.ticket_kinds.specs.Kinds.{field_count, ticket_of, window_taken}
use Rattle.ticket_card.specs.Card.{fields_in, following, record_length, length_in, kind_in, read_of, found}

-- a test that refuses where it is true was false, and one that refuses where it is false was true
past : (b : Bool) (why : Refusal) (r : Result Reading Refusal) (t : Ticket) (k : ℕ) → cond b (Err why) r ≡ found t k → (b ≡ false) × (r ≡ found t k)
past true why r t k e = absurd (refused_never e)
past false why r t k e = (refl, e)

met : (b : Bool) (why : Refusal) (r : Result Reading Refusal) (t : Ticket) (k : ℕ) → cond b r (Err why) ≡ found t k → (b ≡ true) × (r ≡ found t k)
met true why r t k e = (refl, e)
met false why r t k e = absurd (refused_never e)

-- the numbers in the fields that the kind has
abbrev pub numbers_in : List ℕ → List ℕ
numbers_in d = fields_in (field_count (kind_in d)) (drop 6 d)

-- bytes that begin with a whole record, whose ticket is t and which takes k bytes
pub record Begins (d : List ℕ) (t : Ticket) (k : ℕ) : Type 0 where
  pub six : 6 ≤ length d
  pub known : eqb (field_count (kind_in d)) 0 ≡ false
  pub exact : length_in d ≡ following (field_count (kind_in d))
  pub there : record_length (field_count (kind_in d)) ≤ length d
  pub window : window_taken (kind_in d) (numbers_in d) ≡ true
  pub ticket : ticket_of (kind_in d) (numbers_in d) ≡ t
  pub taken : record_length (field_count (kind_in d)) ≡ k

pub read_begins : (d : List ℕ) (t : Ticket) (k : ℕ) → read_of d ≡ found t k → Begins d t k
unfolding read_of
read_begins d t k e =
    let a = past _ _ _ t k e in
    let b = past _ _ _ t k a.1 in
    let c = met _ _ _ t k b.1 in
    let f = met _ _ _ t k c.1 in
    let g = met _ _ _ t k f.1 in
    record {
      six = ltb-false (length d) 6 a.0;
      known = b.0;
      exact = eqb-true (length_in d) (following (field_count (kind_in d))) c.0;
      there = leb-true (record_length (field_count (kind_in d))) (length d) f.0;
      window = g.0;
      ticket = same g.1;
      taken = size g.1;
    }
  where
    same : {x y : Ticket} {m n : ℕ} → found x m ≡ found y n → x ≡ y
    same e = ap (λ (r : Reading). r.ticket) (same_answer e)

    size : {x y : Ticket} {m n : ℕ} → found x m ≡ found y n → m ≡ n
    size e = ap (λ (r : Reading). r.taken) (same_answer e)

pub begins_read : (d : List ℕ) (t : Ticket) (k : ℕ) → Begins d t k → read_of d ≡ found t k
unfolding read_of
begins_read d t k b =
    rw (
      le-ltb (length d) 6 b.six,
      b.known,
      eq-eqb (length_in d) (following (field_count (kind_in d))) b.exact,
      le-leb (record_length (field_count (kind_in d))) (length d) b.there,
      b.window,
      b.ticket,
      b.taken,
    )

-- ---- the bytes that a record takes: they are there, and some are
pub read_there : (d : List ℕ) (t : Ticket) (k : ℕ) → read_of d ≡ found t k → k ≤ length d
read_there d t k e = let b = read_begins d t k e in rw (← b.taken) b.there

pub read_some : (d : List ℕ) (t : Ticket) (k : ℕ) → read_of d ≡ found t k → 6 ≤ k
read_some d t k e = let b = read_begins d t k e in rw (← b.taken) (omega arith)
