-- A buffer that is written from the front, one number behind the other, each of a width of its own: a record's length,
-- its kind, its fields. Assumes nothing.
use Rattle.std.specs.Prelude.{◌≡◌, refl, List, [], ◌∷◌, ◌++◌, ℕ, ◌+◌, ◌≤◌, length, drop}
use Rattle.std.proofs.Common.{sym, ap, ◌∙◌, subst, append_assoc, append-nil, arith, length-append, length-drop, drop_of_length-le, take_at, drop-drop}
use Rattle.std.proofs.lemmas.List.Edits.{sets-eq}
use Rattle.std.proofs.Math.Seq.{drop-append-add}
use Rattle.wire.specs.Bytes.{bytes_of, put_of}
use Rattle.wire.specs.Laws.{length_bytes, put_fits}
use Rattle.ticket_card.specs.Card.{following}
use Rattle.ticket_record.specs.Record.{field_bytes, record_bytes}

-- p was written into the buffer d, to the byte `at`, and what stands from there on is as it came
pub record Front (d p : List ℕ) (at : ℕ) (now : List ℕ) : Type 0 where
  pub size : length p ≡ at
  pub stands : now ≡ p ++ drop at d

pub at_first : (d : List ℕ) → Front d [] 0 d
at_first d = record { size = refl; stands = sym (none d) }
  where
    none : (d : List ℕ) → drop 0 d ≡ d
    none [] = refl
    none (b ∷ d) = refl

module _ {d p : List ℕ} {at : ℕ} {now : List ℕ} (f : Front d p at now) where
  -- the next w bytes
  pub one_more : (w n : ℕ) {next : List ℕ} → at + w ≤ length d → next ≡ put_of w now at n → Front d (p ++ bytes_of w n) (at + w) next
  one_more w n {next} h put =
      let v = length_bytes w n in
      let l = f.size in
      let m = length-append p (drop at d) in
      let r = length-drop at d in
      record {
        size = omega (arith, length-append p (bytes_of w n), v, l);
        stands =
            put
            ∙ ap (λ (x : List ℕ). put_of w x at n) f.stands
            ∙ put_fits w (p ++ drop at d) at n (omega (arith, m, r, l, h))
            ∙ sets-eq (bytes_of w n) (p ++ drop at d) at (omega (arith, v, m, r, l, h))
            ∙ ap (λ (t : List ℕ). (t ++ bytes_of w n) ++ drop (at + length (bytes_of w n)) (p ++ drop at d)) (take_at p (drop at d) at l)
            ∙ ap (λ (j : ℕ). (p ++ bytes_of w n) ++ drop (at + j) (p ++ drop at d)) v
            ∙ ap (λ (t : List ℕ). (p ++ bytes_of w n) ++ t) (ap (λ (j : ℕ). drop (j + w) (p ++ drop at d)) (sym l) ∙ drop-append-add p (drop at d) w ∙ drop-drop w at d);
      }

  -- and nothing behind it, where it takes the whole buffer
  pub at_end : length d ≤ at → now ≡ p
  at_end h = f.stands ∙ ap (λ (l : List ℕ). p ++ l) (drop_of_length-le d h) ∙ append-nil p

-- ---- a record: the length m of what follows, the kind k and the fields xs so far
abbrev head : ℕ → ℕ → List ℕ
head m k = bytes_of 4 m ++ bytes_of 2 k

pub record RecordFront (d : List ℕ) (m k : ℕ) (xs : List ℕ) (at : ℕ) (now : List ℕ) : Type 0 where
  pub front : Front d (head m k ++ field_bytes xs) at now

pub no_fields : {d : List ℕ} {first now : List ℕ} (m k : ℕ) → 6 ≤ length d → first ≡ put_of 4 d 0 m → now ≡ put_of 2 first 4 k → RecordFront d m k [] 6 now
unfolding field_bytes
no_fields {d} {now = now} m k h p q = record { front = subst (λ (p : List ℕ). Front d p 6 now) (sym (append-nil (head m k))) (one_more (one_more (at_first d) 4 m (omega arith) p) 2 k (omega arith) q) }

fields_more : (xs : List ℕ) (x : ℕ) → field_bytes (xs ++ (x ∷ [])) ≡ field_bytes xs ++ bytes_of 8 x
unfolding field_bytes
fields_more [] x = append-nil (bytes_of 8 x)
fields_more (y ∷ xs) x = rw (fields_more xs x, append_assoc (bytes_of 8 y) (field_bytes xs) (bytes_of 8 x))

module _ {d : List ℕ} {m k : ℕ} {xs : List ℕ} {at : ℕ} {now : List ℕ} (f : RecordFront d m k xs at now) where
  pub one_field : (x : ℕ) {next : List ℕ} → at + 8 ≤ length d → next ≡ put_of 8 now at x → RecordFront d m k (xs ++ (x ∷ [])) (at + 8) next
  one_field x {next} h put = record {
    front =
        subst (λ (p : List ℕ). Front d p (at + 8) next)
        (append_assoc (head m k) (field_bytes xs) (bytes_of 8 x) ∙ ap (λ (l : List ℕ). head m k ++ l) (sym (fields_more xs x)))
        (one_more f.front 8 x h put);
  }

  pub all_fields : length d ≤ at → m ≡ following (length xs) → now ≡ record_bytes k xs
  all_fields h e = at_end f.front h ∙ append_assoc (bytes_of 4 m) (bytes_of 2 k) (field_bytes xs) ∙ ap (λ (j : ℕ). bytes_of 4 j ++ (bytes_of 2 k ++ field_bytes xs)) e
