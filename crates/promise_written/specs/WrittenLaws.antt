-- What the exports that read and write tickets are to each other, from what each ensures. Assumes nothing.
use Rattle.std.specs.Prelude.{ℕ, ◌^◌, ◌≡◌, refl, Bool, true, false, cond, eqb, take, Err, Ok, Result}
use Rattle.std.proofs.Math.Path.{sym, ap}
use Rattle.std.proofs.Common.{◌∙◌, subst, arith, eqb-true, eq-eqb}
use mathlib.Core.List.{List, [], ◌++◌, append-nil}
use Rattle.std.proofs.Math.ListN.{length}
use Rattle.std.specs.Float.Ieee.Bits.{is_true}
use Rattle.laws.specs.Binary64.{whole}
use Rattle.laws.specs.Cases.{either_way}
use Rattle.laws.specs.Tests.{holds}
use Rattle.laws.specs.Results.{refused_never}
use Rattle.verdict.specs.Report.{report_of, accepted_of}
use Rattle.verdict.specs.Reports.{done_report}
use Rattle.verdict.specs.declared.Refusal.{Refusal}
use Rattle.verdict.specs.declared.Report.{Report}
use Rattle.wire.specs.Held.{Below}
use Rattle.ticket_kinds.specs.Kinds.{kind_of, fields_of, has_code, numbers_of, field_count, window_taken, ticket_of, formed_of}
use Rattle.ticket_kinds.specs.KindsLaws.{formed_passed, formed_back}
use Rattle.ticket_kinds.specs.declared.Ticket.{Ticket}
use Rattle.ticket_kinds.specs.declared.Ticket.TheVariants.{Lowpass, Spec, Halfband, Gaussian, Rrc, Channelizer}
use Rattle.ticket_kinds.specs.declared.numbers.Numbers.{Numbers}
use Rattle.ticket_card.specs.declared.Reading.{Reading}
use Rattle.ticket_card.specs.Card.{record_length, read_of, found}
use Rattle.ticket_record.specs.Record.{record_of, field_list, write_of, left_by}
use Rattle.ticket_record.specs.RecordLaws.{length_record}
use Rattle.c_card.specs.Cards.{told_of}
use Rattle.c_card.specs.Writing.{written_for, left_for, WritesTicket}
use Rattle.c_card.specs.declared.reading.TicketRead.{TicketRead}
use Rattle.promise_refusals.specs.Demand.{listed, Numbered}
use Rattle.promise_refusals.specs.Listed.{Listed}
use Rattle.promise_refusals.proofs.ListedLaws.{numbered, done_heard, never_zero}
use Rattle.promise_card.specs.Reads.{of_reading}
use Rattle.promise_card.specs.ReadsLaws.{read_listed, read_coded}
use Rattle.promise_written.specs.Fits.{ticket_fits, read_fits}
use Rattle.promise_written.specs.Records.{zeroed, written_read, read_written, read_zeroed, read_taken}
use Rattle.promise_written.specs.Written.{own_numbers, bytes_taken, WrittenOrKept, ReadAs, ReadsBack, WritesBack}

-- ---- every refusal has one of the numbers
write_listed : (t : Ticket) (len : ℕ) → Listed (write_of t len)
unfolding write_of report_of listed
write_listed t len = either_way Listed (has_code t) _ _ (either_way Listed (eqb len (length (record_of t))) _ _ tt tt) tt

written_listed : (n : Numbers) (len : ℕ) → Listed (written_for (formed_of n) len)
unfolding formed_of report_of listed
written_listed n len =
    let P : Result Ticket Refusal → Type 0 = λ f. Listed (written_for f len) in
    either_way P (eqb (field_count n.kind) 0) _ _ tt (either_way P (window_taken n.kind (field_list n)) _ _ (write_listed (ticket_of n.kind (field_list n)) len) tt)

-- ---- how long a record is, by its kind
by_kinds : (t : Ticket) → record_length (length (fields_of t)) ≡ bytes_taken t
by_kinds (Lowpass t) = refl
by_kinds (Spec t) = refl
by_kinds (Halfband t) = refl
by_kinds (Gaussian t) = refl
by_kinds (Rrc t) = refl
by_kinds (Channelizer t) = refl

-- ---- a record that was written: its window has a code, and the buffer is as long as it
done_only : (a b : Bool) (x y : Refusal) → cond a (cond b (Ok tt) (Err x)) (Err y) ≡ Ok (tt {0}) → (a ≡ true) × (b ≡ true)
done_only true true x y e = (refl, refl)
done_only true false x y e = absurd (refused_never e)
done_only false b x y e = absurd (refused_never e)

wrote : (t : Ticket) (len : ℕ) → write_of t len ≡ Ok tt → (has_code t ≡ true) × (len ≡ length (record_of t))
unfolding write_of
wrote t len d =
    let p = done_only _ _ _ _ d in
    (p.0, eqb-true len (length (record_of t)) p.1)

writes : (t : Ticket) (len : ℕ) → has_code t ≡ true → len ≡ length (record_of t) → write_of t len ≡ Ok tt
unfolding write_of
writes t len c e = rw (c, eq-eqb len (length (record_of t)) e)

-- ---- `pel_write_ticket`
module _ (n : Numbers) {before after : List ℕ} {r : Report} (w : WritesTicket (formed_of n) before r after) where
  numbered_written : Numbered (written_for (formed_of n) (length before)) r.number
  numbered_written =
      let len = length before in
      let v = written_for (formed_of n) len in
      numbered v (ap (λ (x : Report). x.number) w.answer ∙ done_heard len v) (written_listed n len)

  -- the ticket, where it was written
  record Accepted : Type 0 where
    pub ticket : Ticket
    pub formed : formed_of n ≡ Ok ticket
    pub code : has_code ticket ≡ true
    pub size : length before ≡ length (record_of ticket)
    pub bytes : after ≡ record_of ticket
    pub told : r ≡ accepted_of (length before) (whole 0)

  accepted : r.number ≡ 0 → Accepted
  accepted z = go (formed_of n) refl (numbered_written.only z)
    where
      go : (f : Result Ticket Refusal) → formed_of n ≡ f → written_for (formed_of n) (length before) ≡ Ok tt → Accepted
      go (Ok t) e d =
          let v : write_of t (length before) ≡ (Ok tt) = sym (ap (λ (f : Result Ticket Refusal). written_for f (length before)) e) ∙ d in
          let p = wrote t (length before) v in
          record {
            ticket = t;
            formed = e;
            code = p.0;
            size = p.1;
            bytes = w.buffer ∙ ap (λ (f : Result Ticket Refusal). left_for f before) e ∙ ap (λ (x : Result (Unit {0}) Refusal). left_by x t before) v;
            told = w.answer ∙ ap (done_report (length before)) d;
          }
      go (Err why) e d = absurd (refused_never (sym (ap (λ (f : Result Ticket Refusal). written_for f (length before)) e) ∙ d))

  pub written_or_kept : length after ≡ length before → WrittenOrKept n before r after
  unfolding accepted_of
  written_or_kept same = record {
    told = numbered_written;
    written = λ z. let a = accepted z in record {
      ticket = a.ticket;
      formed = a.formed;
      again = ap (λ (f : Result Ticket Refusal). formed_of (own_numbers f)) a.formed ∙ formed_back a.ticket (holds a.code);
      bytes = a.bytes;
      count = counted a.told ∙ sym same;
      taken = counted a.told ∙ a.size ∙ length_record (kind_of a.ticket) (fields_of a.ticket) ∙ by_kinds a.ticket;
    };
    kept = λ z. w.buffer ∙ as_it_came (formed_of n) (λ d. z (numbered_written.accepted d));
    size = same;
  }
    where
      counted : r ≡ accepted_of (length before) (whole 0) → r.count ≡ length before
      counted e = ap (λ (x : Report). x.count) e

      left : (v : Result (Unit {0}) Refusal) (t : Ticket) → (v ≡ Ok tt → ⊥) → left_by v t before ≡ before
      left (Ok tt) t h = absurd (h refl)
      left (Err why) t h = refl

      as_it_came : (f : Result Ticket Refusal) → (written_for f (length before) ≡ Ok tt → ⊥) → left_for f before ≡ before
      as_it_came (Ok t) h = left (write_of t (length before)) t h
      as_it_came (Err why) h = refl

  -- what was written reads back
  pub reads_back : Below (2 ^ 64) (field_list n) → ReadsBack n r after
  unfolding formed_of
  reads_back fit rest z =
      let a = accepted z in
      let t = a.ticket in
      ap (λ (l : List ℕ). told_of (read_of (l ++ rest))) a.bytes
      ∙ ap told_of (written_read t rest (holds a.code) (formed_fits t a.formed))
      ∙ ap (λ (k : ℕ). answered (Ok t) (accepted_of k (whole 0))) (sym a.size)
      ∙ ap (answered (Ok t)) (sym a.told)
      ∙ ap (λ (f : Result Ticket Refusal). answered f r) (sym a.formed)
    where
      answered : Result Ticket Refusal → Report → TicketRead
      answered f x = record { ticket = own_numbers f; report = x }

      formed_fits : (t : Ticket) → formed_of n ≡ Ok t → Below (2 ^ 64) (fields_of t)
      formed_fits t e =
          let p = formed_passed n.kind (field_list n) t e in
          subst (λ (x : Ticket). Below (2 ^ 64) (fields_of x)) p.2 (ticket_fits n.kind (field_list n) p.0 fit)

  -- and nothing need follow
  pub read_as : {read : TicketRead} → Below (2 ^ 64) (field_list n) → read ≡ told_of (read_of after) → ReadAs n r read
  read_as fit e z = e ∙ ap (λ (l : List ℕ). told_of (read_of l)) (sym (append-nil after)) ∙ reads_back fit [] z

-- ---- what was read is written back
pub writes_back : (s : List ℕ) {read : TicketRead} {before after : List ℕ} {r : Report} → Below 256 s → read ≡ told_of (read_of s) → WritesTicket (formed_of read.ticket) before r after → WritesBack s read before r after
unfolding accepted_of
writes_back s {read} {before} {after} {r} b e w = go (read_of s) refl
  where
    go : (x : Result Reading Refusal) → read_of s ≡ x → WritesBack s read before r after
    go (Err why) g z l =
        let h : read.report ≡ report_of why = ap (λ (y : TicketRead). y.report) e ∙ ap (λ (y : Result Reading Refusal). (told_of y).report) g in
        absurd (never_zero (report_of why).number (subst (λ (y : Result Reading Refusal). Listed (of_reading y)) g (read_listed s)) (ap (λ (y : Report). y.number) (sym h) ∙ z))
    go (Ok x) g z l =
        let t = x.ticket in
        let k = x.taken in
        let h : read.report ≡ accepted_of k (whole 0) = ap (λ (y : TicketRead). y.report) e ∙ ap (λ (y : Result Reading Refusal). (told_of y).report) g in
        let m : read.ticket ≡ numbers_of t = ap (λ (y : TicketRead). y.ticket) e ∙ ap (λ (y : Result Reading Refusal). (told_of y).ticket) g in
        let c = read_coded s t k g in
        let f : formed_of read.ticket ≡ Ok t = ap formed_of m ∙ formed_back t c in
        let j : length before ≡ k = l ∙ ap (λ (y : Report). y.count) h in
        let v : write_of t (length before) ≡ (Ok tt) = writes t (length before) (is_true (has_code t) c) (j ∙ read_taken s t k g) in
        let told : r ≡ accepted_of k (whole 0) = w.answer ∙ ap (λ (y : Result Ticket Refusal). done_report (length before) (written_for y (length before))) f ∙ ap (done_report (length before)) v ∙ ap (λ (y : ℕ). accepted_of y (whole 0)) j in
        let left : after ≡ record_of t = w.buffer ∙ ap (λ (y : Result Ticket Refusal). left_for y before) f ∙ ap (λ (y : Result (Unit {0}) Refusal). left_by y t before) v in
        let size : k ≡ r.count = ap (λ (y : Report). y.count) (sym told) in
        record {
          told = told ∙ sym h;
          bytes = λ u. left ∙ read_written s t k g b u ∙ ap (λ (j : ℕ). take j s) size;
          unused = λ u. left ∙ read_zeroed s t k g b u ∙ ap (λ (j : ℕ). zeroed (take j s)) size;
          again = λ rest.
              ap (λ (l : List ℕ). told_of (read_of (l ++ rest))) left
              ∙ ap told_of (written_read t rest c (read_fits s t k g b))
              ∙ ap (λ (j : ℕ). told_of (found t j)) (sym (read_taken s t k g))
              ∙ ap told_of (sym g)
              ∙ sym e;
        }
