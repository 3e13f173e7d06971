-- The parts of a record, there and back: numbers that are written are read, whatever follows, and bytes that are read
-- are written. Assumes nothing.
use Rattle.std.specs.Prelude.{◌≡◌, refl, List, [], ◌∷◌, ◌++◌, ℕ, zero, suc, ◌+◌, ◌*◌, ◌^◌, ◌≤◌, ◌<◌, length, take, drop}
use Rattle.std.proofs.Common.{sym, ap, ◌∙◌, append_assoc, lt_of_lt_of_le, arith, lit≤, length-drop, take_at, drop_at, take-add, length-take-le, drop-drop}
use Rattle.wire.specs.Bytes.{bytes_of, number_of}
use Rattle.wire.specs.Laws.{length_bytes}
use Rattle.wire.specs.Read.{number_bytes}
use Rattle.wire.specs.Held.{Below, none, more, below_take, below_drop, bytes_number}
use Rattle.ticket_card.specs.Card.{fields_in, following, record_length, length_in, kind_in}
use Rattle.ticket_record.specs.Record.{field_bytes, record_bytes}

-- ---- fields
count_fields : (n : ℕ) (d : List ℕ) → length (fields_in n d) ≡ n
unfolding fields_in
count_fields zero d = refl
count_fields (suc n) d = ap suc (count_fields n (drop 8 d))

fields_back : {xs : List ℕ} → Below (2 ^ 64) xs → (rest : List ℕ) → fields_in (length xs) (field_bytes xs ++ rest) ≡ xs
unfolding fields_in field_bytes
fields_back none rest = refl
fields_back (more {b} {bs} s h) rest =
    rw (
      append_assoc (bytes_of 8 b) (field_bytes bs) rest,
      take_at (bytes_of 8 b) (field_bytes bs ++ rest) 8 (length_bytes 8 b),
      drop_at (bytes_of 8 b) (field_bytes bs ++ rest) 8 (length_bytes 8 b),
      number_bytes 8 b (lt_of_lt_of_le s (lit≤ tt)),
      fields_back h rest,
    )

fields_again : (n : ℕ) (d : List ℕ) → 8 * n ≤ length d → Below 256 d → field_bytes (fields_in n d) ≡ take (8 * n) d
unfolding fields_in field_bytes
fields_again zero d h b = sym (none_taken d)
  where
    none_taken : (d : List ℕ) → take 0 d ≡ []
    none_taken [] = refl
    none_taken (x ∷ d) = refl
fields_again (suc n) d h b =
    let m : 8 * suc n ≡ 8 + 8 * n = omega arith in
    rw (
      m,
      take-add 8 (8 * n) d,
      bytes_number 8 (take 8 d) (length-take-le 8 d (omega arith)) (below_take 8 b),
      fields_again n (drop 8 d) (omega (arith, length-drop 8 d)) (below_drop 8 b),
    )

-- ---- what a record says of itself is what was written, whatever follows
module _ (k : ℕ) (xs rest : List ℕ) where
  abbrev all : List ℕ
  all = record_bytes k xs ++ rest

  abbrev tail : List ℕ
  tail = bytes_of 2 k ++ (field_bytes xs ++ rest)

  apart : all ≡ bytes_of 4 (following (length xs)) ++ tail
  apart = simp append_assoc

  after_length : drop 4 all ≡ tail
  after_length = ap (drop 4) apart ∙ drop_at (bytes_of 4 (following (length xs))) tail 4 (length_bytes 4 (following (length xs)))

  after_kind : drop 6 all ≡ field_bytes xs ++ rest
  after_kind = sym (drop-drop 2 4 all) ∙ ap (drop 2) after_length ∙ drop_at (bytes_of 2 k) (field_bytes xs ++ rest) 2 (length_bytes 2 k)

  pub length_back : following (length xs) < 4294967296 → length_in all ≡ following (length xs)
  length_back h =
      ap (λ (d : List ℕ). number_of (take 4 d)) apart
      ∙ ap number_of (take_at (bytes_of 4 (following (length xs))) tail 4 (length_bytes 4 (following (length xs))))
      ∙ number_bytes 4 (following (length xs)) h

  pub kind_back : k < 65536 → kind_in all ≡ k
  kind_back h =
      ap (λ (d : List ℕ). number_of (take 2 d)) after_length
      ∙ ap number_of (take_at (bytes_of 2 k) (field_bytes xs ++ rest) 2 (length_bytes 2 k))
      ∙ number_bytes 2 k h

  pub record_back : Below (2 ^ 64) xs → fields_in (length xs) (drop 6 all) ≡ xs
  record_back h = ap (fields_in (length xs)) after_kind ∙ fields_back h rest

-- ---- bytes whose length is right are written again as they were
pub record_again : (n : ℕ) (d : List ℕ) → record_length n ≤ length d → Below 256 d → length_in d ≡ following n → record_bytes (kind_in d) (fields_in n (drop 6 d)) ≡ take (record_length n) d
record_again n d h b e =
    let c : length (fields_in n (drop 6 d)) ≡ n = count_fields n (drop 6 d) in
    let p : bytes_of 4 (length_in d) ≡ take 4 d = bytes_number 4 (take 4 d) (length-take-le 4 d (omega arith)) (below_take 4 b) in
    let q : bytes_of 2 (kind_in d) ≡ take 2 (drop 4 d) = bytes_number 2 (take 2 (drop 4 d)) (length-take-le 2 (drop 4 d) (omega (arith, length-drop 4 d))) (below_take 2 (below_drop 4 b)) in
    let f : field_bytes (fields_in n (drop 6 d)) ≡ take (8 * n) (drop 6 d) = fields_again n (drop 6 d) (omega (arith, length-drop 6 d)) (below_drop 6 b) in
    ap (λ (m : ℕ). bytes_of 4 (following m) ++ (bytes_of 2 (kind_in d) ++ field_bytes (fields_in n (drop 6 d)))) c
    ∙ ap (λ (m : ℕ). bytes_of 4 m ++ (bytes_of 2 (kind_in d) ++ field_bytes (fields_in n (drop 6 d)))) (sym e)
    ∙ rw (p, q, f) (sym (three n d))
  where
    six : (n : ℕ) → 6 + 8 * n ≡ 4 + (2 + 8 * n)
    six n = omega arith

    three : (n : ℕ) (d : List ℕ) → take (6 + 8 * n) d ≡ take 4 d ++ (take 2 (drop 4 d) ++ take (8 * n) (drop 6 d))
    three n d =
        ap (λ (m : ℕ). take m d) (six n)
        ∙ take-add 4 (2 + 8 * n) d
        ∙ ap (λ (l : List ℕ). take 4 d ++ l) (take-add 2 (8 * n) (drop 4 d) ∙ ap (λ (l : List ℕ). take 2 (drop 4 d) ++ take (8 * n) l) (drop-drop 2 4 d))
