-- Demand 1 of the reader from what its exports ensure. Assumes nothing.
use Rattle.std.specs.Prelude.{ℕ, ◌<◌, ◌≡◌, refl, Bool, true, false, cond, List, T, eqb, ltb, leb, length, drop, get_or, Err, Ok, Result}
use Rattle.std.proofs.Common.{sym, ap, ◌∙◌, subst}
use Rattle.laws.specs.Cases.{either_way}
use Rattle.verdict.specs.Report.{report_of, accepted_of}
use Rattle.verdict.specs.Reports.{done_report}
use Rattle.verdict.specs.declared.Report.{Report}
use Rattle.ticket_kinds.specs.Kinds.{window_of, has_code, window_code, field_count, window_taken, ticket_of}
use Rattle.ticket_kinds.specs.KindsLaws.{formed_back}
use Rattle.ticket_kinds.specs.declared.Ticket.{Ticket}
use Rattle.ticket_kinds.specs.declared.TicketWindow.{TicketWindow}
use Rattle.ticket_card.specs.declared.Reading.{Reading}
use Rattle.ticket_card.specs.Card.{fields_in, following, record_length, length_in, kind_in, read_of, found}
use Rattle.ticket_card.specs.Cards.{CardReads}
use Rattle.ticket_card.specs.Readings.{numbers_in, read_begins}
use Rattle.c_card.specs.Cards.{no_ticket, told_of, ChecksCard}
use Rattle.c_card.specs.declared.reading.TicketRead.{TicketRead}
use Rattle.c_card.specs.declared.reading.CardChecked.{CardChecked}
use Rattle.promise_refusals.specs.Demand.{listed}
use Rattle.promise_refusals.specs.Listed.{Listed}
use Rattle.promise_refusals.proofs.ListedLaws.{never_zero, numbered, done_heard}
use Rattle.promise_card.specs.Reads.{of_reading, Held, ReadOrNone, CheckedCard}
use Rattle.promise_card.specs.Whole.{whole_card, broken_card}
use Rattle.verdict.specs.declared.Refusal.{Refusal}

-- ---- every refusal of the reader has one of the numbers
abbrev ReadListed : Result Reading Refusal → Type 0
ReadListed r = Listed (of_reading r)

pub read_listed : (d : List ℕ) → ReadListed (read_of d)
unfolding read_of report_of listed
read_listed d =
    let k = kind_in d in
    let n = field_count k in
    either_way ReadListed (ltb (length d) 6) _ _ tt
    (either_way ReadListed (eqb n 0) _ _ tt
    (either_way ReadListed (eqb (length_in d) (following n)) _ _
    (either_way ReadListed (leb (record_length n) (length d)) _ _
    (either_way ReadListed (window_taken k (fields_in n (drop 6 d))) _ _ tt tt)
    tt)
    tt))

-- ---- a ticket that was read has a code, so that it comes back from its numbers
window_coded : (code beta : ℕ) → T (leb (window_code (window_of code beta)) 3)
window_coded code beta = go (eqb code 0) (eqb code 1) (eqb code 2)
  where
    open_window : Bool → Bool → Bool → TicketWindow
    open_window a b c = cond a (window_of 0 beta) (cond b (window_of 1 beta) (cond c (window_of 2 beta) (window_of 3 beta)))

    go : (a b c : Bool) → T (leb (window_code (open_window a b c)) 3)
    go true b c = tt
    go false true c = tt
    go false false true = tt
    go false false false = tt

coded : (k : ℕ) (xs : List ℕ) → T (has_code (ticket_of k xs))
unfolding ticket_of
coded k xs =
    let P : Ticket → Type 0 = λ t. T (has_code t) in
    either_way P (eqb k 1) _ _ (window_coded (get_or xs 2 0) (get_or xs 3 0)) (either_way P (eqb k 2) _ _ tt (either_way P (eqb k 3) _ _ tt (either_way P (eqb k 4) _ _ tt (either_way P (eqb k 5) _ _ tt tt))))

pub read_coded : (d : List ℕ) (t : Ticket) (k : ℕ) → read_of d ≡ found t k → T (has_code t)
read_coded d t k e = subst (λ (t : Ticket). T (has_code t)) (read_begins d t k e).ticket (coded (kind_in d) (numbers_in d))

-- ---- `pel_read_ticket`
reading_heard : (r : Result Reading Refusal) → (told_of r).report.number ≡ (done_report 0 (of_reading r)).number
unfolding accepted_of
reading_heard (Ok r) = refl
reading_heard (Err why) = refl

pub read_or_none : (s : List ℕ) {r : TicketRead} → r ≡ told_of (read_of s) → ReadOrNone s r
unfolding accepted_of
read_or_none s {r} e = subst (ReadOrNone s) (sym e) (record {
  told = numbered (of_reading (read_of s)) (reading_heard (read_of s) ∙ done_heard 0 (of_reading (read_of s))) (read_listed s);
  held = these (read_of s) refl;
  none = zeroed (read_of s);
})
  where
    these : (r : Result Reading Refusal) → read_of s ≡ r → (told_of r).report.number ≡ 0 → Held s (told_of r)
    these (Ok r) g z = record { ticket = r.ticket; read = g; numbers = refl; again = formed_back r.ticket (read_coded s r.ticket r.taken g) }
    these (Err why) g z = absurd (never_zero (report_of why).number (subst ReadListed g (read_listed s)) z)

    zeroed : (r : Result Reading Refusal) → ((told_of r).report.number ≡ 0 → ⊥) → (told_of r).ticket ≡ no_ticket
    zeroed (Ok r) h = absurd (h refl)
    zeroed (Err why) h = refl

-- ---- `pel_check_card`
ended_listed : {d : List ℕ} {ts : List Ticket} {at : ℕ} (v : Result (Unit {0}) Refusal) → CardReads d ts at v → Listed v
ended_listed (Ok tt) r = tt
ended_listed {d} {at = at} (Err why) r = subst ReadListed (broken_card why r refl).1 (read_listed (drop at d))

pub checked_card : (s : List ℕ) {r : CardChecked} → ChecksCard s r → CheckedCard s r
unfolding accepted_of
checked_card s {r} c =
    let v = c.ended in
    let l = ended_listed v c.reads in
    let heard : r.report.number ≡ (done_report (length c.held) v).number = ap (λ (z : Report). z.number) c.report in
    record {
      held = c.held;
      ended = v;
      reads = c.reads;
      tickets = c.tickets;
      told = numbered v (heard ∙ done_heard (length c.held) v) l;
      whole = λ z. whole (length c.held) v l c.reads (sym heard ∙ z);
      broken = λ h. broken (length c.held) v c.reads c.report (λ z. h (heard ∙ z));
    }
  where
    whole : {ts : List Ticket} {at : ℕ} (n : ℕ) (v : Result (Unit {0}) Refusal) → Listed v → CardReads s ts at v → (done_report n v).number ≡ 0 → at ≡ length s
    whole n (Ok tt) l reads z = whole_card reads refl
    whole n (Err why) l reads z = absurd (never_zero (report_of why).number l z)

    broken : {ts : List Ticket} {at : ℕ} {told : Report} (n : ℕ) (v : Result (Unit {0}) Refusal) → CardReads s ts at v → told ≡ done_report n v → ((done_report n v).number ≡ 0 → ⊥) → (at < length s) × ((told_of (read_of (drop at s))).report ≡ told)
    broken n (Ok tt) reads e h = absurd (h refl)
    broken n (Err why) reads e h =
        let b = broken_card why reads refl in
        (b.0, ap (λ (x : Result Reading Refusal). (told_of x).report) b.1 ∙ sym e)
