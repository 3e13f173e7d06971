-- How long a record is, what the numbers of a ticket tell of its record, and how the writer comes to its answer.
-- Assumes nothing.
use Rattle.std.specs.Prelude.{◌≡◌, refl, true, false, List, [], ◌∷◌, ◌++◌, ℕ, ◌*◌, ◌≤◌, ◌<◌, take, Err, Ok}
use Rattle.std.proofs.Math.Path.{sym, ap}
use Rattle.std.proofs.Common.{◌∙◌, arith, length-append}
use borrow.Author.Tests.{eq-eqb, ne_eqb, le-leb, lt-leb}
use Rattle.std.proofs.Math.ListN.{length}
use Rattle.wire.specs.Bytes.{bytes_of}
use Rattle.wire.specs.Laws.{length_bytes}
use Rattle.verdict.specs.declared.Refusal.TheVariants.{Plain, Length}
use Rattle.ticket_kinds.specs.Kinds.{window_code, kind_of, fields_of, has_code, numbers_of, field_count}
use Rattle.ticket_kinds.specs.KindsLaws.{count_is}
use Rattle.ticket_kinds.specs.declared.Ticket.{Ticket}
use Rattle.ticket_kinds.specs.declared.Ticket.TheVariants.{Lowpass, Spec, Halfband, Gaussian, Rrc, Channelizer}
use Rattle.ticket_kinds.specs.declared.numbers.Numbers.{Numbers}
use Rattle.ticket_card.specs.Card.{following, record_length}
use Rattle.ticket_record.specs.Record.{field_bytes, record_bytes, record_of, field_list, write_of, WritesRecord}
use Rattle.verdict.specs.declared.Reason.TheVariants as Reason

-- ---- lengths
pub length_fields : (xs : List ℕ) → length (field_bytes xs) ≡ 8 * length xs
unfolding field_bytes
length_fields [] = refl
length_fields (x ∷ xs) = length-append (bytes_of 8 x) (field_bytes xs) ∙ omega (arith, length_bytes 8 x, length_fields xs)

pub length_record : (k : ℕ) (xs : List ℕ) → length (record_bytes k xs) ≡ record_length (length xs)
length_record k xs =
    let a = length-append (bytes_of 4 (following (length xs))) (bytes_of 2 k ++ field_bytes xs) in
    let b = length-append (bytes_of 2 k) (field_bytes xs) in
    omega (arith, a, b, length_bytes 4 (following (length xs)), length_bytes 2 k, length_fields xs)

pub size_of : (t : Ticket) → length (record_of t) ≡ record_length (field_count (kind_of t))
size_of t = length_record (kind_of t) (fields_of t) ∙ ap record_length (sym (count_is t))

few_fields : (t : Ticket) → (2 ≤ length (fields_of t)) × (length (fields_of t) ≤ 5) × (length (fields_of t) ≡ 4 → ⊥)
few_fields (Lowpass t) = (omega arith, omega arith, λ e. omega arith)
few_fields (Spec t) = (omega arith, omega arith, λ e. omega arith)
few_fields (Halfband t) = (omega arith, omega arith, λ e. omega arith)
few_fields (Gaussian t) = (omega arith, omega arith, λ e. omega arith)
few_fields (Rrc t) = (omega arith, omega arith, λ e. omega arith)
few_fields (Channelizer t) = (omega arith, omega arith, λ e. omega arith)

-- ---- a loaded window, and none
window_above : (t : Ticket) → kind_of t ≡ 1 → 3 < (numbers_of t).third → has_code t ≡ false
window_above (Lowpass t) k h = lt-leb (window_code t.window) 3 h
window_above (Spec t) k h = absurd (omega arith)
window_above (Halfband t) k h = absurd (omega arith)
window_above (Gaussian t) k h = absurd (omega arith)
window_above (Rrc t) k h = absurd (omega arith)
window_above (Channelizer t) k h = absurd (omega arith)

window_within : (t : Ticket) → (kind_of t ≡ 1 → (numbers_of t).third ≤ 3) → has_code t ≡ true
window_within (Lowpass t) h = le-leb (window_code t.window) 3 (h refl)
window_within (Spec t) h = refl
window_within (Halfband t) h = refl
window_within (Gaussian t) h = refl
window_within (Rrc t) h = refl
window_within (Channelizer t) h = refl

own_fields : (t : Ticket) → take (length (fields_of t)) (field_list (numbers_of t)) ≡ fields_of t
own_fields (Lowpass t) = refl
own_fields (Spec t) = refl
own_fields (Halfband t) = refl
own_fields (Gaussian t) = refl
own_fields (Rrc t) = refl
own_fields (Channelizer t) = refl

-- as many of its numbers as its kind has fields are the record of a ticket
pub record_is : (t : Ticket) (n : Numbers) (k : ℕ) → n ≡ numbers_of t → k ≡ kind_of t → record_bytes n.kind (take (field_count k) (field_list n)) ≡ record_of t
record_is t n k e kind =
    ap (λ (m : Numbers). record_bytes m.kind (take (field_count k) (field_list m))) e
    ∙ ap (λ (j : ℕ). record_bytes (kind_of t) (take j (field_list (numbers_of t)))) (ap field_count kind ∙ count_is t)
    ∙ ap (record_bytes (kind_of t)) (own_fields t)

-- ---- by the numbers of the ticket, as the writer has them
module _ (t : Ticket) (n : Numbers) (e : n ≡ numbers_of t) where
  kind_is : n.kind ≡ kind_of t
  kind_is = ap (λ (m : Numbers). m.kind) e

  third_is : n.third ≡ (numbers_of t).third
  third_is = ap (λ (m : Numbers). m.third) e

  pub no_code : n.kind ≡ 1 → 3 < n.third → has_code t ≡ false
  no_code k h = window_above t (sym kind_is ∙ k) (omega (arith, h, third_is))

  pub coded : (n.kind ≡ 1 → n.third ≤ 3) → has_code t ≡ true
  coded h = window_within t (λ k. omega (arith, h (kind_is ∙ k), third_is))

  pub few : {count : ℕ} → count ≡ field_count n.kind → (2 ≤ count) × (count ≤ 5) × (count ≡ 4 → ⊥)
  few e =
      let f = few_fields t in
      let c = e ∙ (ap field_count kind_is ∙ count_is t) in
      (rw c f.0, rw c f.1, λ g. f.2 (sym c ∙ g))

  size_is : record_length (field_count n.kind) ≡ length (record_of t)
  size_is = ap (λ (k : ℕ). record_length (field_count k)) kind_is ∙ sym (size_of t)

  module _ (d : List ℕ) where
    pub loaded : has_code t ≡ false → WritesRecord t d (Err (Plain Reason.Code)) d
    unfolding write_of
    loaded c = record { answer = rw c; buffer = rw c }

    pub other_length : has_code t ≡ true → {count : ℕ} → count ≡ field_count n.kind → (length d ≡ record_length count → ⊥) → WritesRecord t d (Err (Length (record_length count) (length d))) d
    unfolding write_of
    other_length c {count} k l =
        let s : record_length count ≡ length (record_of t) = ap record_length k ∙ size_is in
        let b = ne_eqb (length d) (length (record_of t)) (λ q. l (q ∙ sym s)) in
        record { answer = rw (c, b, s); buffer = rw (c, b) }

    pub record_whole : has_code t ≡ true → {count : ℕ} → count ≡ field_count n.kind → length d ≡ record_length count → {after : List ℕ} → after ≡ record_bytes n.kind (take count (field_list n)) → WritesRecord t d (Ok tt) after
    unfolding write_of
    record_whole c {count} k l {after} w =
        let s : record_length count ≡ length (record_of t) = ap record_length k ∙ size_is in
        let b = eq-eqb (length d) (length (record_of t)) (l ∙ s) in
        let r : after ≡ record_of t = w ∙ ap (λ (j : ℕ). record_bytes n.kind (take j (field_list n))) k ∙ record_is t n n.kind e kind_is in
        record { answer = rw (c, b); buffer = rw (c, b, r) }
