-- The kinds are six; a ticket's numbers give it back; and how the tests of a kind and a window end. Assumes nothing.
use Rattle.std.specs.Prelude.{◌≡◌, refl, Bool, true, false, cond, List, ℕ, zero, suc, ◌≤◌, ◌<◌, T, eqb, leb, length, Err, Ok}
use Rattle.std.proofs.Common.{true≢false, arith, ne_eqb}
use Rattle.std.proofs.lemmas.Bool.{eqb-false}
use Rattle.laws.specs.Results.{refused_never, same_answer}
use Rattle.verdict.specs.declared.Refusal.{Refusal}
use Rattle.verdict.specs.declared.Refusal.TheVariants.{Plain}
use Rattle.ticket_kinds.specs.declared.TicketWindow.{TicketWindow}
use Rattle.ticket_kinds.specs.declared.TicketWindow.TheVariants.{Hann, Hamming, Blackman, Kaiser, Loaded}
use Rattle.ticket_kinds.specs.declared.kind.Kind.{Kind}
use Rattle.ticket_kinds.specs.declared.Ticket.{Ticket}
use Rattle.ticket_kinds.specs.declared.Ticket.TheVariants.{Lowpass, Spec, Halfband, Gaussian, Rrc, Channelizer}
use Rattle.ticket_kinds.specs.Kinds.{window_of, window_code, window_beta, kind_number, kind_of, fields_of, numbers_in, numbers_of, field_count, ticket_of, window_taken, has_code, formed, formed_of}
use Rattle.verdict.specs.declared.Reason.TheVariants as Reason

-- ---- a kind is one of six
pub no_kind : (k : ℕ) → (k ≡ 1 → ⊥) → (k ≡ 2 → ⊥) → (k ≡ 3 → ⊥) → (k ≡ 4 → ⊥) → (k ≡ 5 → ⊥) → (k ≡ 6 → ⊥) → field_count k ≡ 0
unfolding field_count
no_kind k a b c d e f = rw (ne_eqb k 1 a, ne_eqb k 2 b, ne_eqb k 3 c, ne_eqb k 4 d, ne_eqb k 5 e, ne_eqb k 6 f)

pub by_kind : (P : ℕ → Type 0) → P 1 → P 2 → P 3 → P 4 → P 5 → P 6 → (k : ℕ) → eqb (field_count k) 0 ≡ false → P k
unfolding field_count
by_kind P a b c d e f zero h = absurd (true≢false h)
by_kind P a b c d e f (suc zero) h = a
by_kind P a b c d e f (suc (suc zero)) h = b
by_kind P a b c d e f (suc (suc (suc zero))) h = c
by_kind P a b c d e f (suc (suc (suc (suc zero)))) h = d
by_kind P a b c d e f (suc (suc (suc (suc (suc zero))))) h = e
by_kind P a b c d e f (suc (suc (suc (suc (suc (suc zero)))))) h = f
by_kind P a b c d e f (suc (suc (suc (suc (suc (suc (suc k))))))) h =
    absurd (eqb-false (field_count (suc (suc (suc (suc (suc (suc (suc k)))))))) 0 h (above (suc (suc (suc (suc (suc (suc (suc k))))))) (omega arith)))
  where
    above : (k : ℕ) → 6 < k → field_count k ≡ 0
    above k h = no_kind k (λ e. omega arith) (λ e. omega arith) (λ e. omega arith) (λ e. omega arith) (λ e. omega arith) (λ e. omega arith)

-- a kind has two, three or five fields, and what is no kind none
pub counts : (k : ℕ) → eqb (field_count k) 0 ≡ false → (2 ≤ field_count k) × (field_count k ≤ 5) × (field_count k ≡ 4 → ⊥)
unfolding field_count
counts k h =
    by_kind (λ k. (2 ≤ field_count k) × (field_count k ≤ 5) × (field_count k ≡ 4 → ⊥))
    (omega arith, omega arith, λ e. omega arith)
    (omega arith, omega arith, λ e. omega arith)
    (omega arith, omega arith, λ e. omega arith)
    (omega arith, omega arith, λ e. omega arith)
    (omega arith, omega arith, λ e. omega arith)
    (omega arith, omega arith, λ e. omega arith)
    k h

pub least_fields : (k : Kind) → 2 ≤ field_count (kind_number k)
unfolding field_count
least_fields Kind.Lowpass = omega arith
least_fields Kind.Spec = omega arith
least_fields Kind.Halfband = omega arith
least_fields Kind.Gaussian = omega arith
least_fields Kind.Rrc = omega arith
least_fields Kind.Channelizer = omega arith

pub most_fields : (k : Kind) → field_count (kind_number k) ≤ 5
unfolding field_count
most_fields Kind.Lowpass = omega arith
most_fields Kind.Spec = omega arith
most_fields Kind.Halfband = omega arith
most_fields Kind.Gaussian = omega arith
most_fields Kind.Rrc = omega arith
most_fields Kind.Channelizer = omega arith

pub never_four : (k : Kind) → field_count (kind_number k) ≡ 4 → ⊥
unfolding field_count
never_four Kind.Lowpass e = omega arith
never_four Kind.Spec e = omega arith
never_four Kind.Halfband e = omega arith
never_four Kind.Gaussian e = omega arith
never_four Kind.Rrc e = omega arith
never_four Kind.Channelizer e = omega arith

-- as many fields as a ticket of the kind has, and the ticket of a kind has that kind
pub count_is : (t : Ticket) → field_count (kind_of t) ≡ length (fields_of t)
unfolding field_count
count_is (Lowpass t) = refl
count_is (Spec t) = refl
count_is (Halfband t) = refl
count_is (Gaussian t) = refl
count_is (Rrc t) = refl
count_is (Channelizer t) = refl

pub kind_kept : (k : ℕ) (xs : List ℕ) → eqb (field_count k) 0 ≡ false → kind_of (ticket_of k xs) ≡ k
unfolding ticket_of
kind_kept k xs h = by_kind (λ (k : ℕ). kind_of (ticket_of k xs) ≡ k) refl refl refl refl refl refl k h

-- a code that is none of the first three is Kaiser's
pub last_window : (code beta : ℕ) → (code ≡ 0 → ⊥) → (code ≡ 1 → ⊥) → (code ≡ 2 → ⊥) → Kaiser beta ≡ window_of code beta
last_window code beta a b c = rw (ne_eqb code 0 a, ne_eqb code 1 b, ne_eqb code 2 c)

-- ---- the tests look at the fields alone
pub formed_numbers : (k : ℕ) (xs : List ℕ) → formed_of (numbers_in k xs) ≡ formed k xs
unfolding formed_of window_taken ticket_of
formed_numbers k xs = refl

-- what passed them
passed : (a b : Bool) (why other : Refusal) (x t : Ticket) → cond a (Err why) (cond b (Ok x) (Err other)) ≡ Ok t → (a ≡ false) × (b ≡ true) × (x ≡ t)
passed true b why other x t e = absurd (refused_never e)
passed false true why other x t e = (refl, refl, same_answer e)
passed false false why other x t e = absurd (refused_never e)

pub formed_passed : (k : ℕ) (xs : List ℕ) (t : Ticket) → formed k xs ≡ Ok t → (eqb (field_count k) 0 ≡ false) × (window_taken k xs ≡ true) × (ticket_of k xs ≡ t)
formed_passed k xs t e = passed _ _ _ _ _ t e

-- ---- a ticket whose window has a code comes back from its numbers
pub formed_back : (t : Ticket) → T (has_code t) → formed_of (numbers_of t) ≡ Ok t
unfolding formed_of field_count window_taken ticket_of
formed_back (Lowpass t) h = go t.window h
  where
    go : (w : TicketWindow) → T (leb (window_code w) 3) → cond (leb (window_code w) 3) (Ok (Lowpass (record { cutoff = t.cutoff; rate = t.rate; window = window_of (window_code w) (window_beta w); count = t.count }))) (Err (Plain Reason.Code)) ≡ Ok (Lowpass (record { cutoff = t.cutoff; rate = t.rate; window = w; count = t.count }))
    go Hann h = refl
    go Hamming h = refl
    go Blackman h = refl
    go (Kaiser beta) h = refl
    go (Loaded c) h = absurd h
formed_back (Spec t) h = refl
formed_back (Halfband t) h = refl
formed_back (Gaussian t) h = refl
formed_back (Rrc t) h = refl
formed_back (Channelizer t) h = refl
