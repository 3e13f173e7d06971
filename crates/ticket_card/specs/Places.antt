-- The numbers of a record by their places in the bytes, as the reader takes them. Assumes nothing.
use Rattle.std.specs.Prelude.{◌≡◌, refl, List, [], ◌∷◌, ℕ, zero, suc, ◌+◌, ◌*◌, ◌/◌, ◌≤◌, ◌<◌, length, take, drop, get_or}
use Rattle.std.proofs.Common.{sym, ap, ◌∙◌, not-suc-le-zero, arith, length-drop, drop-drop, drop-cons}
use Rattle.std.specs.Simd.{first_chunks}
use Rattle.wire.specs.Bytes.{number_of, joined_four}
use Rattle.wire.specs.Read.{chunk_in}
use Rattle.ticket_kinds.specs.Kinds.{numbers_in}
use Rattle.ticket_kinds.specs.declared.numbers.Numbers.{Numbers}
use Rattle.ticket_card.specs.Card.{record_length, fields_in, kind_in}

none : (d : List ℕ) → number_of (take 0 d) ≡ 0
unfolding number_of
none [] = refl
none (b ∷ d) = refl

pub kind_place : (d : List ℕ) → 6 ≤ length d → joined_four (get_or d 4 0) (get_or d 5 0) 0 0 ≡ kind_in d
unfolding number_of
kind_place d h =
    let n = none (drop 6 d) in
    rw (drop-cons d 4 0 (omega arith), drop-cons d 5 0 (omega arith)) (omega arith)

-- the number in the eight bytes from `at` on
abbrev pub eight_at : List ℕ → ℕ → ℕ
eight_at d at = number_of (take 8 (drop at d))

-- field i of n
field_at : (n i : ℕ) (d : List ℕ) → i < n → get_or (fields_in n d) i 0 ≡ eight_at d (8 * i)
unfolding fields_in
field_at zero i d h = absurd (not-suc-le-zero h)
field_at (suc n) zero d h = refl
field_at (suc n) (suc i) d h = field_at n i (drop 8 d) (omega arith) ∙ ap (λ (l : List ℕ). number_of (take 8 l)) (drop-drop (8 * i) 8 d ∙ ap (λ (m : ℕ). drop m d) (next i))
  where
    next : (i : ℕ) → 8 + 8 * i ≡ 8 * suc i
    next i = omega arith

field_place : (n i : ℕ) (d : List ℕ) → i < n → eight_at d (6 + 8 * i) ≡ get_or (fields_in n (drop 6 d)) i 0
field_place n i d h = ap (λ (l : List ℕ). number_of (take 8 l)) (sym (drop-drop (8 * i) 6 d)) ∙ sym (field_at n i (drop 6 d) h)

-- there are no more than n
past_fields : (n i : ℕ) (d : List ℕ) → n ≤ i → 0 ≡ get_or (fields_in n d) i 0
unfolding fields_in
past_fields zero i d h = refl
past_fields (suc n) zero d h = absurd (not-suc-le-zero h)
past_fields (suc n) (suc i) d h = past_fields n i (drop 8 d) (omega arith)

-- word i of those that the library cuts the fields' bytes into
pub word_at : (n i : ℕ) (d none : List ℕ) {words : List (List ℕ)} {x : ℕ} → words ≡ first_chunks 8 (length (drop 6 d) / 8) (drop 6 d) → x ≡ number_of (get_or words i none) → record_length n ≤ length d → i < n → x ≡ get_or (fields_in n (drop 6 d)) i 0
word_at n i d none front e there h =
    e
    ∙ ap (λ (l : List (List ℕ)). number_of (get_or l i none)) front
    ∙ ap number_of (chunk_in 8 (length (drop 6 d) / 8) i (drop 6 d) none (omega (arith, length-drop 6 d)))
    ∙ sym (field_at n i (drop 6 d) h)

-- the numbers of n fields, as they are read: those that are there, and 0 past them
module _ (n : ℕ) (d : List ℕ) where
  pub present : (i : ℕ) {x : ℕ} → x ≡ eight_at d (6 + 8 * i) → i < n → x ≡ get_or (fields_in n (drop 6 d)) i 0
  present i e h = e ∙ field_place n i d h

  pub absent : (i : ℕ) → n ≤ i → 0 ≡ get_or (fields_in n (drop 6 d)) i 0
  absent i h = past_fields n i (drop 6 d) h

  pub numbers_are : (k : ℕ) {a b c e f : ℕ} → a ≡ get_or (fields_in n (drop 6 d)) 0 0 → b ≡ get_or (fields_in n (drop 6 d)) 1 0 → c ≡ get_or (fields_in n (drop 6 d)) 2 0 → e ≡ get_or (fields_in n (drop 6 d)) 3 0 → f ≡ get_or (fields_in n (drop 6 d)) 4 0 → ◌≡◌ {A = Numbers} (record { kind = k; first = a; second = b; third = c; fourth = e; fifth = f }) (numbers_in k (fields_in n (drop 6 d)))
  numbers_are k p q r s t = rw (p, q, r, s, t)
