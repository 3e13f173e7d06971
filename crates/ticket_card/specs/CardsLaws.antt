-- How a loop over a card comes to its answer. Assumes nothing.
use Rattle.std.specs.Prelude.{◌≡◌, refl, List, [], ◌∷◌, ◌++◌, ℕ, ◌+◌, ◌<◌, ◌≤◌, length, drop, Err, Ok, Result}
use Rattle.std.proofs.Common.{sym, subst, append_assoc, arith, length-append, length-drop, drop-drop}
use Rattle.verdict.specs.declared.Refusal.{Refusal}
use Rattle.ticket_kinds.specs.declared.Ticket.{Ticket}
use Rattle.ticket_card.specs.declared.Reading.{Reading}
use Rattle.ticket_card.specs.declared.card.Checked.{Checked}
use Rattle.ticket_card.specs.Card.{read_of}
use Rattle.ticket_card.specs.Cards.{CardReads, ends, breaks, next, Checks}
use Rattle.ticket_card.specs.Readings.{read_there, read_some}

-- n tickets were read and reading has come to byte `at`: whatever is read from there on, these stand before it
pub record Reached (d : List ℕ) (at n : ℕ) : Type 0 where
  pub held : List Ticket
  pub count : n ≡ length held
  pub few : n ≤ at
  pub inside : at ≤ length d
  pub onward : (ts : List Ticket) (p : ℕ) (v : Result (Unit {0}) Refusal) → CardReads (drop at d) ts p v → CardReads d (held ++ ts) (at + p) v

pub at_first : (d : List ℕ) → Reached d 0 0
at_first d = record {
  held = [];
  count = refl;
  few = omega arith;
  inside = omega arith;
  onward = λ ts p v h. subst (λ (m : ℕ). CardReads d ts m v) (none_before p) (subst (λ (l : List ℕ). CardReads l ts p v) (drop_none d) h);
}
  where
    none_before : (p : ℕ) → p ≡ 0 + p
    none_before p = omega arith

    drop_none : (d : List ℕ) → drop 0 d ≡ d
    drop_none [] = refl
    drop_none (b ∷ d) = refl

module _ {d : List ℕ} {at n : ℕ} (r : Reached d at n) where
  pub one_more : (one : Reading) → read_of (drop at d) ≡ Ok one → Reached d (at + one.taken) (n + 1)
  one_more one e =
      let t = one.ticket in
      let k = one.taken in
      record {
        held = r.held ++ (t ∷ []);
        count = omega (arith, r.count, length-append r.held (t ∷ []));
        few = omega (arith, r.few, read_some (drop at d) t k e);
        inside = omega (arith, r.inside, read_there (drop at d) t k e, length-drop at d);
        onward = λ ts p v h.
            let one : CardReads (drop at d) (t ∷ ts) (k + p) v = next e (subst (λ (l : List ℕ). CardReads l ts p v) (sym (drop-drop k at d)) h) in
            let all : CardReads d (r.held ++ (t ∷ ts)) (at + (k + p)) v = r.onward (t ∷ ts) (k + p) v one in
            subst (λ (m : ℕ). CardReads d ((r.held ++ (t ∷ [])) ++ ts) m v) (place at k p)
            (subst (λ (l : List Ticket). CardReads d l (at + (k + p)) v) (sym (append_assoc r.held (t ∷ []) ts)) all);
      }
    where
      place : (a b c : ℕ) → a + (b + c) ≡ a + b + c
      place a b c = omega arith

  stop : (c : Checked) (v : Result (Unit {0}) Refusal) → c.tickets ≡ n → c.place ≡ at → c.ended ≡ v → CardReads (drop at d) [] 0 v → Checks d c
  stop c v tickets place ended h = record {
    held = r.held ++ [];
    tickets = omega (arith, tickets, r.count, length-append r.held []);
    reads = rw (place, ended) (subst (λ (m : ℕ). CardReads d (r.held ++ []) m v) (zero_more at) (r.onward [] 0 v h));
  }
    where
      zero_more : (a : ℕ) → a + 0 ≡ a
      zero_more a = omega arith

  pub broken : {why : Refusal} (c : Checked) → c.tickets ≡ n → c.place ≡ at → c.ended ≡ Err why → at < length d → read_of (drop at d) ≡ Err why → Checks d c
  broken {why} c tickets place ended l e = stop c (Err why) tickets place ended (breaks (omega (arith, length-drop at d)) e)

  pub whole : (c : Checked) → c.tickets ≡ n → c.place ≡ at → c.ended ≡ Ok tt → length d ≤ at → Checks d c
  whole c tickets place ended l = stop c (Ok tt) tickets place ended (ends (omega (arith, length-drop at d)))
