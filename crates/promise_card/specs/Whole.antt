-- A card is read in one way, to its end or to the first record that is refused, and reading always ends. Assumes
-- nothing.
use Rattle.std.specs.Prelude.{◌≡◌, refl, List, [], ◌∷◌, ℕ, zero, suc, ◌+◌, ◌*◌, ◌<◌, ◌≤◌, length, drop, Err, Ok, Result}
use Rattle.std.proofs.Common.{sym, ap, ◌∙◌, subst, arith, length-drop, drop-drop}
use Rattle.laws.specs.Results.{refused_never, same_answer, same_refusal}
use Rattle.verdict.specs.declared.Refusal.{Refusal}
use Rattle.ticket_kinds.specs.KindsLaws.{counts}
use Rattle.ticket_kinds.specs.declared.Ticket.{Ticket}
use Rattle.ticket_card.specs.declared.Reading.{Reading}
use Rattle.ticket_card.specs.Card.{kind_in, read_of, found}
use Rattle.ticket_card.specs.Cards.{CardReads, ends, breaks, next}
use Rattle.ticket_card.specs.Readings.{read_begins, read_there, read_some}

-- ---- one way
-- two readings have the same tickets, end at the same byte and end alike
pub record Same (ts us : List Ticket) (a b : ℕ) (v w : Result (Unit {0}) Refusal) : Type 0 where
  pub tickets : ts ≡ us
  pub place : a ≡ b
  pub ended : v ≡ w

empty : (d : List ℕ) (t : Ticket) (k : ℕ) → length d ≡ 0 → read_of d ≡ found t k → ⊥
empty d t k z e = omega (arith, read_there d t k e, read_some d t k e)

pub one_reading : {d : List ℕ} {ts us : List Ticket} {a b : ℕ} {v w : Result (Unit {0}) Refusal} → CardReads d ts a v → CardReads d us b w → Same ts us a b v w
one_reading (ends z) (ends y) = record { tickets = refl; place = refl; ended = refl }
one_reading (ends z) (breaks l e) = absurd (omega arith)
one_reading (ends z) (next e r) = absurd (empty _ _ _ z e)
one_reading (breaks l e) (ends z) = absurd (omega arith)
one_reading (breaks l e) (breaks m f) = record { tickets = refl; place = refl; ended = ap Err (same_refusal (sym e ∙ f)) }
one_reading (breaks l e) (next f r) = absurd (refused_never (sym e ∙ f))
one_reading (next e r) (ends z) = absurd (empty _ _ _ z e)
one_reading (next e r) (breaks l f) = absurd (refused_never (sym f ∙ e))
one_reading {d} {a = a} {b = b} {v = v} {w = w} (next {t = t} {k = k} {ts = ts} {at = p} e r) (next {t = u} {k = m} {ts = us} {at = q} f s) =
    let same = sym e ∙ f in
    let h : Same ts us p q v w = one_reading r (subst (λ (j : ℕ). CardReads (drop j d) us q w) (sym (taken same)) s) in
    record { tickets = ap (λ (x : Ticket). x ∷ ts) (ticket same) ∙ ap (λ (l : List Ticket). u ∷ l) h.tickets; place = omega (arith, taken same, h.place); ended = h.ended }
  where
    ticket : {x y : Ticket} {i j : ℕ} → found x i ≡ found y j → x ≡ y
    ticket h = ap (λ (r : Reading). r.ticket) (same_answer h)

    taken : {x y : Ticket} {i j : ℕ} → found x i ≡ found y j → i ≡ j
    taken h = ap (λ (r : Reading). r.taken) (same_answer h)

-- ---- reading ends, for every list of bytes
pub record Reads (d : List ℕ) : Type 0 where
  pub held : List Ticket
  pub place : ℕ
  pub ended : Result (Unit {0}) Refusal
  pub reads : CardReads d held place ended

within : (n : ℕ) (d : List ℕ) → length d ≤ n → Reads d
within zero d h = record { held = []; place = 0; ended = Ok tt; reads = ends {d = d} (omega arith) }
within (suc n) d h = go (length d) refl (read_of d) refl (λ l m. within n l m)
  where
    go : (m : ℕ) → length d ≡ m → (r : Result Reading Refusal) → read_of d ≡ r → ((l : List ℕ) → length l ≤ n → Reads l) → Reads d
    go zero z r e shorter = record { held = []; place = 0; ended = Ok tt; reads = ends {d = d} z }
    go (suc m) z (Err why) e shorter = record { held = []; place = 0; ended = Err why; reads = breaks {d = d} (omega (arith, z)) e }
    go (suc m) z (Ok r) e shorter =
        let t = r.ticket in
        let k = r.taken in
        let rest = shorter (drop k d) (omega (arith, length-drop k d, read_some d t k e)) in
        record { held = t ∷ rest.held; place = k + rest.place; ended = rest.ended; reads = next {t = t} {k = k} e rest.reads }

pub card_reads : (d : List ℕ) → Reads d
card_reads d = within (length d) d (omega arith)

-- ---- where it ends: at the end of the card, or at bytes that are refused
pub whole_card : {d : List ℕ} {ts : List Ticket} {at : ℕ} {v : Result (Unit {0}) Refusal} → CardReads d ts at v → v ≡ Ok tt → at ≡ length d
whole_card (ends z) e = sym z
whole_card (breaks l r) e = absurd (refused_never e)
whole_card {d} (next {t = t} {k = k} r rest) e = omega (arith, whole_card rest e, length-drop k d, read_there d t k r)

pub broken_card : {d : List ℕ} {ts : List Ticket} {at : ℕ} {v : Result (Unit {0}) Refusal} (why : Refusal) → CardReads d ts at v → v ≡ Err why → (at < length d) × (read_of (drop at d) ≡ Err why)
broken_card why (ends z) e = absurd (refused_never (sym e))
broken_card {d} why (breaks {why = x} l r) e = (l, ap read_of (drop_none d) ∙ r ∙ ap Err (same_refusal e))
  where
    drop_none : (d : List ℕ) → drop 0 d ≡ d
    drop_none [] = refl
    drop_none (b ∷ d) = refl
broken_card {d} why (next {t = t} {k = k} {at = p} r rest) e =
    let h = broken_card why rest e in
    (omega (arith, h.0, length-drop k d, read_there d t k r), ap read_of (sym (drop-drop p k d)) ∙ h.1)

-- ---- each record takes from 22 to 46 bytes
takes_some : (d : List ℕ) (t : Ticket) (k : ℕ) → read_of d ≡ found t k → (22 ≤ k) × (k ≤ 46)
takes_some d t k e =
    let b = read_begins d t k e in
    let few = counts (kind_in d) b.known in
    (omega (arith, b.taken, few.0), omega (arith, b.taken, few.1))

pub card_bytes : {d : List ℕ} {ts : List Ticket} {at : ℕ} {v : Result (Unit {0}) Refusal} → CardReads d ts at v → (22 * length ts ≤ at) × (at ≤ 46 * length ts)
card_bytes (ends z) = (omega arith, omega arith)
card_bytes (breaks l e) = (omega arith, omega arith)
card_bytes {d} (next {t = t} {k = k} e r) =
    let h = card_bytes r in
    let s = takes_some d t k e in
    (omega (arith, h.0, s.0), omega (arith, h.1, s.1))
