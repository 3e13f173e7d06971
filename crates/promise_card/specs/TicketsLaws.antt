-- Demands 1 and 3 of designed tickets, from what the exports ensure: a kind at a time. Assumes nothing.
use Rattle.std.specs.Prelude.{ℕ, ◌-◌, ◌/◌, ◌%◌, ◌≡◌, refl, Bool, true, false, cond, List, [], ◌∷◌, eqb, length, Err, Ok, Result, Some}
use Rattle.std.proofs.Common.{sym, ap, ◌∙◌, arith}
use Rattle.laws.specs.Cases.{either_way}
use Rattle.verdict.specs.Report.{report_of}
use Rattle.verdict.specs.Outcome.{Outcome, answered}
use Rattle.verdict.specs.declared.Refusal.{Refusal}
use Rattle.verdict.specs.declared.Report.{Report}
use Rattle.wire.specs.Bytes.{float_bytes}
use Rattle.wire.specs.Writes.{Writes, whole_taps}
use Rattle.wire.proofs.WritesLaws.{writes_same}
use Rattle.fir_gaussian.specs.Gaussian as Gaussian
use Rattle.fir_rrc.specs.Rrc as Rrc
use Rattle.fir_channelizer.specs.Channelizer as Channelizer
use Rattle.ticket_kinds.specs.Kinds.{kind_of, numbers_of, formed_of, field_count, window_taken, ticket_of}
use Rattle.ticket_kinds.specs.KindsLaws.{kind_kept, formed_back}
use Rattle.ticket_kinds.specs.declared.Ticket.{Ticket}
use Rattle.ticket_kinds.specs.declared.numbers.Numbers.{Numbers}
use Rattle.ticket_design.specs.Design.{float, window_for, spec_for, where_counted, ticket_outcome, ticket_bytes, own_length}
use Rattle.ticket_card.specs.declared.Reading.{Reading}
use Rattle.ticket_card.specs.Card.{read_of}
use Rattle.c_card.specs.Cards.{told_of}
use Rattle.c_card.specs.Tickets.{judged_for, bytes_for}
use Rattle.c_card.specs.declared.reading.TicketRead.{TicketRead}
use Rattle.c_formats.specs.Format.{Q15}
use Rattle.c_formats.specs.Conversions.{ConvertsBytes}
use Rattle.promise_refusals.specs.Demand.{listed}
use Rattle.promise_refusals.specs.Listed.{Listed}
use Rattle.promise_refusals.proofs.ListedLaws.{never_zero}
use Rattle.promise_refusals.specs.Judgements.{whole_listed, lowpass_listed, spec_design_listed, halfband_listed, gaussian_listed, gaussian_fitted_listed, rrc_listed, rrc_fitted_listed, channelizer_listed, channelizer_fitted_listed}
use Rattle.promise_totals.proofs.Sound.{Sound, lowpass_bytes_sound, spec_bytes_sound, halfband_bytes_sound, gaussian_bytes_sound, channelizer_bytes_sound}
use Rattle.promise_totals.proofs.WrittenLaws.{of_writes}
use Rattle.promise_totals.proofs.FilterLaws.{filter_total, whole_taps_lem}
use Rattle.promise_totals.specs.Mirror.{WhereMade}
use Rattle.promise_totals.proofs.MirrorLaws.{bytes_symmetric, mirrored_written, zeros_written}
use Rattle.promise_card.specs.ReadsLaws.{read_coded}
use Rattle.promise_card.specs.Tickets.{Divided, TicketTotals, TicketFilters, TicketMirrors, DesignsRead}
use Rattle.verdict.specs.declared.Reason.TheVariants as Reason

-- what holds of a design in bytes, and of a buffer for another number of taps, holds of a ticket that has a count
by_count : (P : Outcome → Type 0) (count len : ℕ) (o : Outcome) → P (whole_taps len o) → ((e g : ℕ) → P (Outcome.Refused (Refusal.Length e g))) → P (whole_taps len (where_counted count (len / 8) o))
by_count P count len o p q = go (eqb count (len / 8))
  where
    go : (b : Bool) → P (whole_taps len (cond b o (Outcome.Refused (Refusal.Length count (len / 8)))))
    go true = p
    go false = either_way P (eqb (len % 8) 0) (Outcome.Refused (Refusal.Length count (len / 8))) (Outcome.Refused (Refusal.Length (len - len % 8) len)) (q count (len / 8)) (q (len - len % 8) len)

-- ---- demand 1: every refusal has one of the numbers
abbrev OutcomeListed : Outcome → Type 0
OutcomeListed o = Listed (answered o)

ticket_listed : (t : Ticket) (n : ℕ) → OutcomeListed (ticket_outcome t n)
unfolding ticket_outcome report_of listed
ticket_listed (Ticket.Lowpass t) n = either_way OutcomeListed (eqb t.count n) _ _ (lowpass_listed (float t.cutoff) (float t.rate) (window_for t.window) n) tt
ticket_listed (Ticket.Spec t) n = spec_design_listed (spec_for t) (float t.rate) t.cap n
ticket_listed (Ticket.Halfband t) n = either_way OutcomeListed (eqb t.count n) _ _ (halfband_listed (float t.beta) n) tt
ticket_listed (Ticket.Gaussian t) n = gaussian_fitted_listed (Gaussian.gaussian_of (float t.bt) t.samples t.span) n (gaussian_listed (float t.bt) t.samples t.span)
ticket_listed (Ticket.Rrc t) n = rrc_fitted_listed (Rrc.rrc_of (float t.rolloff) t.samples t.span) n (rrc_listed (float t.rolloff) t.samples t.span)
ticket_listed (Ticket.Channelizer t) n = channelizer_fitted_listed (Channelizer.channelizer_lowpass_of t.channels t.branch (float t.passband) (float t.stopband) (float t.attenuation)) n (channelizer_listed t.channels t.branch (float t.passband) (float t.stopband) (float t.attenuation))

-- numbers that are no ticket are refused with 13 or 7
FormedListed : Result Ticket Refusal → Type 0
FormedListed (Ok t) = Unit {0}
FormedListed (Err why) = Listed (answered (Outcome.Refused why))

formed_listed : (n : Numbers) → FormedListed (formed_of n)
unfolding formed_of FormedListed report_of listed
formed_listed n = either_way FormedListed (eqb (field_count n.kind) 0) _ _ tt (either_way FormedListed (window_taken n.kind _) _ _ tt tt)

pub judged_listed : (n : Numbers) → OutcomeListed (judged_for (formed_of n))
unfolding FormedListed
judged_listed n = go (formed_of n) (formed_listed n)
  where
    go : (f : Result Ticket Refusal) → FormedListed f → OutcomeListed (judged_for f)
    go (Ok t) h = ticket_listed t (own_length t)
    go (Err why) h = h

pub bytes_listed : (n : Numbers) (len : ℕ) → OutcomeListed (bytes_for (formed_of n) len)
unfolding FormedListed
bytes_listed n len = go (formed_of n) (formed_listed n)
  where
    go : (f : Result Ticket Refusal) → FormedListed f → OutcomeListed (bytes_for f len)
    go (Ok t) h = whole_listed 8 len (ticket_outcome t (len / 8)) (ticket_listed t (len / 8))
    go (Err why) h = h

-- ---- demand 3: the totals of every kind but one
refused_sound : (why : Refusal) → Listed (answered (Outcome.Refused why)) → Sound (Outcome.Refused why)
refused_sound why l e = never_zero (report_of why).number l e

length_sound : (e g : ℕ) → Sound (Outcome.Refused (Refusal.Length e g))
unfolding report_of listed
length_sound e g = refused_sound (Refusal.Length e g) tt

pub ticket_sound : (t : Ticket) (len : ℕ) → Divided (kind_of t) → Sound (ticket_bytes t len)
unfolding ticket_outcome
ticket_sound (Ticket.Lowpass t) len d = by_count Sound t.count len _ (lowpass_bytes_sound (float t.cutoff) (float t.rate) (Some (window_for t.window)) len) length_sound
ticket_sound (Ticket.Spec t) len d = spec_bytes_sound (spec_for t) (float t.rate) t.cap len
ticket_sound (Ticket.Halfband t) len d = by_count Sound t.count len _ (halfband_bytes_sound (float t.beta) len) length_sound
ticket_sound (Ticket.Gaussian t) len d = gaussian_bytes_sound (float t.bt) t.samples t.span len
ticket_sound (Ticket.Rrc t) len d = absurd (d refl)
ticket_sound (Ticket.Channelizer t) len d = channelizer_bytes_sound t.channels t.branch (float t.passband) (float t.stopband) (float t.attenuation) len

-- and a half-band's mirror
halfband_made : (t : Ticket) (len : ℕ) → kind_of t ≡ 3 → WhereMade (ticket_bytes t len)
unfolding ticket_outcome
halfband_made (Ticket.Halfband t) len e = by_count WhereMade t.count len _ (bytes_symmetric (float t.beta) len) (λ e g. tt)
halfband_made (Ticket.Lowpass t) len e = absurd (omega (arith, e))
halfband_made (Ticket.Spec t) len e = absurd (omega (arith, e))
halfband_made (Ticket.Gaussian t) len e = absurd (omega (arith, e))
halfband_made (Ticket.Rrc t) len e = absurd (omega (arith, e))
halfband_made (Ticket.Channelizer t) len e = absurd (omega (arith, e))

-- the ticket of numbers has their kind
SameKind : ℕ → Result Ticket Refusal → Type 0
SameKind k (Ok t) = kind_of t ≡ k
SameKind k (Err why) = Unit {0}

same_kind : (n : Numbers) → SameKind n.kind (formed_of n)
unfolding formed_of SameKind
same_kind n = let xs = n.first ∷ n.second ∷ n.third ∷ n.fourth ∷ n.fifth ∷ [] in go n.kind xs (eqb (field_count n.kind) 0) refl (window_taken n.kind xs)
  where
    go : (k : ℕ) (xs : List ℕ) (b : Bool) → eqb (field_count k) 0 ≡ b → (c : Bool) → SameKind k (cond b (Err (Refusal.Plain Reason.Kind)) (cond c (Ok (ticket_of k xs)) (Err (Refusal.Plain Reason.Code))))
    go k xs true h c = tt
    go k xs false h true = kind_kept k xs h
    go k xs false h false = tt

-- what holds of every ticket's bytes of a kind holds of the bytes of numbers of that kind
by_ticket : (P : Outcome → Type 0) (n : Numbers) (len : ℕ) → ((t : Ticket) → kind_of t ≡ n.kind → P (ticket_bytes t len)) → ((why : Refusal) → Listed (answered (Outcome.Refused why)) → P (Outcome.Refused why)) → P (bytes_for (formed_of n) len)
unfolding SameKind FormedListed
by_ticket P n len p q = go (formed_of n) (same_kind n) (formed_listed n)
  where
    go : (f : Result Ticket Refusal) → SameKind n.kind f → FormedListed f → P (bytes_for f len)
    go (Ok t) e l = p t e
    go (Err why) e l = q why l

bytes_sound : (n : Numbers) (len : ℕ) → Divided n.kind → Sound (bytes_for (formed_of n) len)
bytes_sound n len d = by_ticket Sound n len (λ t e. ticket_sound t len (λ k. d (sym e ∙ k))) refused_sound

module _ (n : Numbers) {before after : List ℕ} {r : Report} (w : Writes float_bytes (bytes_for (formed_of n) (length before)) before r after) where
  pub ticket_totals : TicketTotals n.kind r after
  ticket_totals d = of_writes (bytes_sound n (length before) d) w

  pub ticket_mirrors : TicketMirrors n.kind r after
  ticket_mirrors = record {
    mirrored = λ k. mirrored_written (sound k) (made k) w;
    zeros = λ k. zeros_written (sound k) (made k) w;
  }
    where
      sound : n.kind ≡ 3 → Sound (bytes_for (formed_of n) (length before))
      sound k = bytes_sound n (length before) (λ e. omega (arith, k, e))

      made : n.kind ≡ 3 → WhereMade (bytes_for (formed_of n) (length before))
      made k = by_ticket WhereMade n (length before) (λ t e. halfband_made t (length before) (e ∙ k)) (λ why l. tt)

  pub ticket_filters : {out codes : List ℕ} {c : Report} → ConvertsBytes Q15 1 after out c codes → TicketFilters n.kind r after c codes
  ticket_filters v d = filter_total (ticket_totals d) (whole_taps_lem (bytes_sound n (length before) d) w) v

-- ---- what was read is designed as the ticket that the bytes hold
pub designs_read : (s : List ℕ) {before after : List ℕ} {r : Report} {told : TicketRead} → told ≡ told_of (read_of s) → Writes float_bytes (bytes_for (formed_of told.ticket) (length before)) before r after → DesignsRead s before r after
designs_read s {before} {after} {r} {told} e w t k f =
    let numbers : told.ticket ≡ numbers_of t = ap (λ (x : TicketRead). x.ticket) e ∙ ap (λ (x : Result Reading Refusal). (told_of x).ticket) f in
    writes_same (ap (λ (x : Result Ticket Refusal). bytes_for x (length before)) (ap formed_of numbers ∙ formed_back t (read_coded s t k f))) w
