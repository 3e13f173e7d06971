-- A ticket as the number of its kind and the numbers of its fields, and the ticket of such numbers. Definitions only.
use Rattle.std.specs.Prelude.{ℕ, List, [], ◌∷◌, Bool, true, cond, eqb, leb, get_or, Err, Ok, Result, MatchResult, ◌≡◌}
use Rattle.verdict.specs.declared.Refusal.TheVariants.{Plain}
use Rattle.ticket_kinds.specs.declared.TicketWindow.{TicketWindow}
use Rattle.ticket_kinds.specs.declared.TicketWindow.TheVariants.{Hann, Hamming, Blackman, Kaiser, Loaded}
use Rattle.ticket_kinds.specs.declared.Ticket.{Ticket}
use Rattle.ticket_kinds.specs.declared.Ticket.TheVariants.{Lowpass, Spec, Halfband, Gaussian, Rrc, Channelizer}
use Rattle.ticket_kinds.specs.declared.kind.Kind.{Kind}
use Rattle.ticket_kinds.specs.declared.numbers.Numbers.{Numbers}
use Rattle.verdict.specs.declared.Refusal.{Refusal}
use Rattle.verdict.specs.declared.Reason.TheVariants as Reason

-- ---- from a ticket
-- a window's code; 4, which is no window's, of a loaded one
abbrev pub window_code : TicketWindow → ℕ
window_code Hann = 0
window_code Hamming = 1
window_code Blackman = 2
window_code (Kaiser beta) = 3
window_code (Loaded c) = 4

-- "beta is all zero bits where the window isn't Kaiser"
abbrev pub window_beta : TicketWindow → ℕ
window_beta Hann = 0
window_beta Hamming = 0
window_beta Blackman = 0
window_beta (Kaiser beta) = beta
window_beta (Loaded c) = 0

-- "kinds 1 to 6 are"
abbrev pub kind_number : Kind → ℕ
kind_number Kind.Lowpass = 1
kind_number Kind.Spec = 2
kind_number Kind.Halfband = 3
kind_number Kind.Gaussian = 4
kind_number Kind.Rrc = 5
kind_number Kind.Channelizer = 6

abbrev pub kind_of : Ticket → ℕ
kind_of (Lowpass t) = 1
kind_of (Spec t) = 2
kind_of (Halfband t) = 3
kind_of (Gaussian t) = 4
kind_of (Rrc t) = 5
kind_of (Channelizer t) = 6

-- "low-pass (cutoff, rate, window, beta, count), spec (cutoff, transition, attenuation, rate, max), half-band (beta,
-- count), Gaussian (bt, samples, span), RRC (roll-off, samples, span) and channelizer (channels, branch, passband,
-- stopband, attenuation)"
abbrev pub fields_of : Ticket → List ℕ
fields_of (Lowpass t) = t.cutoff ∷ t.rate ∷ window_code t.window ∷ window_beta t.window ∷ t.count ∷ []
fields_of (Spec t) = t.cutoff ∷ t.transition ∷ t.attenuation ∷ t.rate ∷ t.cap ∷ []
fields_of (Halfband t) = t.beta ∷ t.count ∷ []
fields_of (Gaussian t) = t.bt ∷ t.samples ∷ t.span ∷ []
fields_of (Rrc t) = t.rolloff ∷ t.samples ∷ t.span ∷ []
fields_of (Channelizer t) = t.channels ∷ t.branch ∷ t.passband ∷ t.stopband ∷ t.attenuation ∷ []

-- whether a card and C have a code for it: for a loaded window they have none
abbrev pub has_code : Ticket → Bool
has_code (Lowpass t) = leb (window_code t.window) 3
has_code (Spec t) = true
has_code (Halfband t) = true
has_code (Gaussian t) = true
has_code (Rrc t) = true
has_code (Channelizer t) = true

-- a kind and its fields as C has them: those that the kind hasn't are 0
abbrev pub numbers_in : ℕ → List ℕ → Numbers
numbers_in k xs =
    let x : ℕ → ℕ = λ i. get_or xs i 0 in
    record { kind = k; first = x 0; second = x 1; third = x 2; fourth = x 3; fifth = x 4 }

abbrev pub numbers_of : Ticket → Numbers
numbers_of t = numbers_in (kind_of t) (fields_of t)

-- ---- and back: k is a kind, xs has its fields
-- how many fields a kind has; 0 where there is no such kind
unfoldable pub field_count : ℕ → ℕ
field_count k = cond (eqb k 1) 5 (cond (eqb k 2) 5 (cond (eqb k 3) 2 (cond (eqb k 4) 3 (cond (eqb k 5) 3 (cond (eqb k 6) 5 0)))))

-- what a number is taken for: the kind that has it, or 13 where none has
abbrev pub NamesKind : ℕ → Result Kind Refusal → Type 0
NamesKind k r = MatchResult r (λ kind. kind_number kind ≡ k) (λ why. (why ≡ Plain Reason.Kind) × (field_count k ≡ 0))

-- only a low-pass has a window, "0 to 3"
unfoldable pub window_taken : ℕ → List ℕ → Bool
window_taken k xs = cond (eqb k 1) (leb (get_or xs 2 0) 3) true

-- a code above 3 is refused before this is asked
abbrev pub window_of : ℕ → ℕ → TicketWindow
window_of code beta = cond (eqb code 0) Hann (cond (eqb code 1) Hamming (cond (eqb code 2) Blackman (Kaiser beta)))

-- a window, or 7 where the code is none of the four
abbrev pub window_coded : ℕ → ℕ → Result TicketWindow Refusal
window_coded code beta = cond (leb code 3) (Ok (window_of code beta)) (Err (Plain Reason.Code))

unfoldable pub ticket_of : ℕ → List ℕ → Ticket
ticket_of k xs =
    let x : ℕ → ℕ = λ i. get_or xs i 0 in
    cond (eqb k 1) (Lowpass (record { cutoff = x 0; rate = x 1; window = window_of (x 2) (x 3); count = x 4 }))
    (cond (eqb k 2) (Spec (record { cutoff = x 0; transition = x 1; attenuation = x 2; rate = x 3; cap = x 4 }))
    (cond (eqb k 3) (Halfband (record { beta = x 0; count = x 1 }))
    (cond (eqb k 4) (Gaussian (record { bt = x 0; samples = x 1; span = x 2 }))
    (cond (eqb k 5) (Rrc (record { rolloff = x 0; samples = x 1; span = x 2 }))
    (Channelizer (record { channels = x 0; branch = x 1; passband = x 2; stopband = x 3; attenuation = x 4 }))))))

-- a ticket, or why there is none: the kind is tested first, the window last
abbrev pub formed : ℕ → List ℕ → Result Ticket Refusal
formed k xs = cond (eqb (field_count k) 0) (Err (Plain Reason.Kind)) (cond (window_taken k xs) (Ok (ticket_of k xs)) (Err (Plain Reason.Code)))

unfoldable pub formed_of : Numbers → Result Ticket Refusal
formed_of n = formed n.kind (n.first ∷ n.second ∷ n.third ∷ n.fourth ∷ n.fifth ∷ [])
