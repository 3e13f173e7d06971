-- A card read record by record, to its end or to the first record that is refused. Definitions only.
use Rattle.std.specs.Prelude.{ℕ, ◌+◌, ◌<◌, ◌≡◌, List, [], ◌∷◌, length, drop, Err, Ok, Result}
use Rattle.verdict.specs.declared.Refusal.{Refusal}
use Rattle.ticket_kinds.specs.declared.Ticket.{Ticket}
use Rattle.ticket_card.specs.declared.card.Checked.{Checked}
use Rattle.ticket_card.specs.Card.{read_of, found}

-- the bytes hold these tickets, one record behind the other; reading ends at this byte, since none is left or since the
-- record that begins there is refused
pub data CardReads : List ℕ → List Ticket → ℕ → Result (Unit {0}) Refusal → Type 0 where
  ends : {d : List ℕ} → length d ≡ 0 → CardReads d [] 0 (Ok tt)
  breaks : {d : List ℕ} {why : Refusal} → 0 < length d → read_of d ≡ Err why → CardReads d [] 0 (Err why)
  next : {d : List ℕ} {t : Ticket} {k : ℕ} {ts : List Ticket} {at : ℕ} {v : Result (Unit {0}) Refusal} → read_of d ≡ found t k → CardReads (drop k d) ts at v → CardReads d (t ∷ ts) (k + at) v

-- what is answered of a card
pub record Checks (d : List ℕ) (r : Checked) : Type 0 where
  pub held : List Ticket
  pub tickets : r.tickets ≡ length held
  pub reads : CardReads d held r.place r.ended
