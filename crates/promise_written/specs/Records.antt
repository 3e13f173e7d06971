-- A ticket that is written is read, whatever follows its record; a record that is read is written byte for byte, with
-- zeros for a beta that its window doesn't take. Assumes nothing.
use Rattle.std.specs.Prelude.{◌≡◌, false, List, [], ◌∷◌, ◌++◌, ℕ, zero, suc, ◌+◌, ◌^◌, ◌<◌, T, eqb, leb, length, take, drop, replicate}
use Rattle.std.proofs.Math.Path.{refl, sym, ap}
use Rattle.std.proofs.Common.{◌∙◌, arith, leb-true, length-append}
use Rattle.std.proofs.Math.Bool.{true}
use Rattle.std.proofs.Math.ListN.{get_or}
use Rattle.wire.specs.Bytes.{bytes_of, number_of}
use Rattle.wire.specs.Held.{Below}
use Rattle.ticket_kinds.specs.Kinds.{window_code, window_beta, window_of, kind_of, fields_of, has_code, field_count, window_taken, ticket_of}
use Rattle.ticket_kinds.specs.KindsLaws.{by_kind, count_is, kind_kept, formed_numbers, formed_passed, formed_back}
use Rattle.ticket_kinds.specs.declared.Ticket.{Ticket}
use Rattle.ticket_kinds.specs.declared.Ticket.TheVariants.{Lowpass, Spec, Halfband, Gaussian, Rrc, Channelizer}
use Rattle.ticket_card.specs.Card.{fields_in, following, record_length, kind_in, read_of, found}
use Rattle.ticket_card.specs.Places.{eight_at, present}
use Rattle.ticket_card.specs.Readings.{numbers_in, read_begins, begins_read}
use Rattle.ticket_record.specs.Record.{field_bytes, record_bytes, record_of}
use Rattle.ticket_record.specs.RecordLaws.{length_record}
use Rattle.promise_written.specs.Fields.{length_back, kind_back, record_back, record_again}

-- ---- written, then read
small : (t : Ticket) → (kind_of t < 65536) × (following (length (fields_of t)) < 4294967296)
small (Lowpass t) = (omega arith, omega arith)
small (Spec t) = (omega arith, omega arith)
small (Halfband t) = (omega arith, omega arith)
small (Gaussian t) = (omega arith, omega arith)
small (Rrc t) = (omega arith, omega arith)
small (Channelizer t) = (omega arith, omega arith)

module _ (t : Ticket) (rest : List ℕ) (code : T (has_code t)) (fit : Below (2 ^ 64) (fields_of t)) where
  kind : kind_in (record_of t ++ rest) ≡ kind_of t
  kind = kind_back (kind_of t) (fields_of t) rest (small t).0

  number : field_count (kind_in (record_of t ++ rest)) ≡ length (fields_of t)
  number = ap field_count kind ∙ count_is t

  numbers : numbers_in (record_of t ++ rest) ≡ fields_of t
  numbers = ap (λ (n : ℕ). fields_in n (drop 6 (record_of t ++ rest))) number ∙ record_back (kind_of t) (fields_of t) rest fit

  size : length (record_of t ++ rest) ≡ record_length (length (fields_of t)) + length rest
  size = length-append (record_of t) rest ∙ ap (λ (n : ℕ). n + length rest) (length_record (kind_of t) (fields_of t))

  back : (eqb (field_count (kind_of t)) 0 ≡ false) × (window_taken (kind_of t) (fields_of t) ≡ true) × (ticket_of (kind_of t) (fields_of t) ≡ t)
  back = formed_passed (kind_of t) (fields_of t) t (sym (formed_numbers (kind_of t) (fields_of t)) ∙ formed_back t code)

  pub written_read : read_of (record_of t ++ rest) ≡ found t (length (record_of t))
  written_read = begins_read (record_of t ++ rest) t (length (record_of t)) (record {
    six = rw size (omega arith);
    known = rw kind back.0;
    exact = length_back (kind_of t) (fields_of t) rest (small t).1 ∙ ap following (sym number);
    there = rw (number, size) (omega arith);
    window = rw (numbers, kind) back.1;
    ticket = rw (numbers, kind) back.2;
    taken = rw number (sym (length_record (kind_of t) (fields_of t)));
  })

-- ---- read, then written
-- a low-pass with another window than Kaiser's has a beta that nobody looks at, the eight bytes from byte 30 on
abbrev pub HasUnused : List ℕ → Type 0
HasUnused d = (kind_in d ≡ 1) × (eight_at d 22 ≡ 3 → ⊥)

-- "a record whose unused beta, if it has one, is all zero bits"
abbrev pub UnusedZero : List ℕ → Type 0
UnusedZero d = HasUnused d → take 8 (drop 30 d) ≡ replicate 8 0

-- zeros in its place, and every other byte as it was
abbrev pub zeroed : List ℕ → List ℕ
zeroed d = take 30 d ++ (replicate 8 0 ++ drop 38 d)

-- a window's code is that of the window it names, and its beta is kept or all zero bits
code_again : (code beta : ℕ) → leb code 3 ≡ true → window_code (window_of code beta) ≡ code
code_again zero beta h = refl
code_again (suc zero) beta h = refl
code_again (suc (suc zero)) beta h = refl
code_again (suc (suc (suc zero))) beta h = refl
code_again (suc (suc (suc (suc c)))) beta h = absurd (omega (arith, leb-true (suc (suc (suc (suc c)))) 3 h))

beta_dropped : (code beta : ℕ) → leb code 3 ≡ true → (code ≡ 3 → ⊥) → window_beta (window_of code beta) ≡ 0
beta_dropped zero beta h u = refl
beta_dropped (suc zero) beta h u = refl
beta_dropped (suc (suc zero)) beta h u = refl
beta_dropped (suc (suc (suc zero))) beta h u = absurd (u refl)
beta_dropped (suc (suc (suc (suc c)))) beta h u = absurd (omega (arith, leb-true (suc (suc (suc (suc c)))) 3 h))

beta_again : (code beta : ℕ) → leb code 3 ≡ true → ((code ≡ 3 → ⊥) → beta ≡ 0) → window_beta (window_of code beta) ≡ beta
beta_again zero beta h u = sym (u (λ e. omega arith))
beta_again (suc zero) beta h u = sym (u (λ e. omega arith))
beta_again (suc (suc zero)) beta h u = sym (u (λ e. omega arith))
beta_again (suc (suc (suc zero))) beta h u = refl
beta_again (suc (suc (suc (suc c)))) beta h u = absurd (omega (arith, leb-true (suc (suc (suc (suc c)))) 3 h))

abbrev Unused : ℕ → List ℕ → Type 0
Unused k xs = k ≡ 1 → (get_or xs 2 0 ≡ 3 → ⊥) → get_or xs 3 0 ≡ 0

fields_same : (d : List ℕ) (k : ℕ) → eqb (field_count k) 0 ≡ false → window_taken k (fields_in (field_count k) d) ≡ true → Unused k (fields_in (field_count k) d) → fields_of (ticket_of k (fields_in (field_count k) d)) ≡ fields_in (field_count k) d
unfolding ticket_of window_taken field_count fields_in
fields_same d k h =
    by_kind (λ (k : ℕ). window_taken k (fields_in (field_count k) d) ≡ true → Unused k (fields_in (field_count k) d) → fields_of (ticket_of k (fields_in (field_count k) d)) ≡ fields_in (field_count k) d)
    (λ w u. rw (code_again (get_or (fields_in 5 d) 2 0) (get_or (fields_in 5 d) 3 0) w, beta_again (get_or (fields_in 5 d) 2 0) (get_or (fields_in 5 d) 3 0) w (u refl)))
    (λ w u. refl)
    (λ w u. refl)
    (λ w u. refl)
    (λ w u. refl)
    (λ w u. refl)
    k h

beta_zeroed : (k a b c x e : ℕ) → record_bytes k (a ∷ b ∷ c ∷ 0 ∷ e ∷ []) ≡ zeroed (record_bytes k (a ∷ b ∷ c ∷ x ∷ e ∷ []))
unfolding bytes_of field_bytes
beta_zeroed k a b c x e = refl

fields_zeroed : (d : List ℕ) → window_taken 1 (fields_in 5 d) ≡ true → (get_or (fields_in 5 d) 2 0 ≡ 3 → ⊥) → record_bytes 1 (fields_of (ticket_of 1 (fields_in 5 d))) ≡ zeroed (record_bytes 1 (fields_in 5 d))
unfolding ticket_of window_taken fields_in
fields_zeroed d w u =
    let x : ℕ → ℕ = λ i. get_or (fields_in 5 d) i 0 in
    rw (code_again (x 2) (x 3) w, beta_dropped (x 2) (x 3) w u) (beta_zeroed 1 (x 0) (x 1) (x 2) (x 3) (x 4))

module _ (d : List ℕ) (t : Ticket) (k : ℕ) (e : read_of d ≡ found t k) where
  -- a record takes as many bytes as its ticket's has
  pub read_taken : k ≡ length (record_of t)
  read_taken =
      let b = read_begins d t k e in
      sym b.taken
      ∙ ap (λ (j : ℕ). record_length (field_count j)) (sym (kind_kept (kind_in d) (numbers_in d) b.known) ∙ ap kind_of b.ticket)
      ∙ ap record_length (count_is t)
      ∙ sym (length_record (kind_of t) (fields_of t))

  -- the record of the numbers that were read
  numbers_written : record_of t ≡ record_bytes (kind_in d) (fields_of (ticket_of (kind_in d) (numbers_in d)))
  numbers_written =
      let b = read_begins d t k e in
      ap record_of (sym b.ticket) ∙ ap (λ (m : ℕ). record_bytes m (fields_of (ticket_of (kind_in d) (numbers_in d)))) (kind_kept (kind_in d) (numbers_in d) b.known)

  bytes_written : Below 256 d → record_bytes (kind_in d) (numbers_in d) ≡ take k d
  bytes_written h =
      let b = read_begins d t k e in
      record_again (field_count (kind_in d)) d b.there h b.exact ∙ ap (λ (m : ℕ). take m d) b.taken

  -- what is used
  pub read_written : Below 256 d → UnusedZero d → record_of t ≡ take k d
  unfolding number_of field_count
  read_written h u =
      let b = read_begins d t k e in
      numbers_written ∙ ap (record_bytes (kind_in d)) (fields_same (drop 6 d) (kind_in d) b.known b.window unused) ∙ bytes_written h
    where
      unused : Unused (kind_in d) (numbers_in d)
      unused one other =
          let n : field_count (kind_in d) ≡ 5 = ap field_count one in
          let p : eight_at d 22 ≡ get_or (fields_in 5 (drop 6 d)) 2 0 = present 5 d 2 refl (omega arith) in
          let q : eight_at d 30 ≡ get_or (fields_in 5 (drop 6 d)) 3 0 = present 5 d 3 refl (omega arith) in
          let o : get_or (fields_in 5 (drop 6 d)) 2 0 ≡ 3 → ⊥ = rw n at other in
          rw n (sym q ∙ ap number_of (u (one, λ e. o (sym p ∙ e))))

  -- what is not
  pub read_zeroed : Below 256 d → HasUnused d → record_of t ≡ zeroed (take k d)
  unfolding field_count
  read_zeroed h u =
      let b = read_begins d t k e in
      let one = u.0 in
      let n : field_count (kind_in d) ≡ 5 = ap field_count one in
      let p : eight_at d 22 ≡ get_or (fields_in 5 (drop 6 d)) 2 0 = present 5 d 2 refl (omega arith) in
      let w : window_taken 1 (fields_in 5 (drop 6 d)) ≡ true = sym (ap (λ (j : ℕ). window_taken j (fields_in (field_count j) (drop 6 d))) one) ∙ b.window in
      numbers_written
      ∙ ap (λ (j : ℕ). record_bytes j (fields_of (ticket_of j (fields_in (field_count j) (drop 6 d))))) one
      ∙ fields_zeroed (drop 6 d) w (λ c. u.1 (p ∙ c))
      ∙ ap (λ (j : ℕ). zeroed (record_bytes j (fields_in (field_count j) (drop 6 d)))) (sym one)
      ∙ ap zeroed (bytes_written h)
