-- The fields of a ticket that is made of numbers of 64 bits, as C and a card give them, are such numbers. Assumes
-- nothing.
use Rattle.std.specs.Prelude.{◌≡◌, Bool, true, false, cond, List, ℕ, zero, suc, ◌*◌, ◌^◌, ◌≤◌, ◌<◌, eqb, length, take, drop, get_or}
use Rattle.std.proofs.Common.{subst, lt_of_lt_of_le, arith, lit≤, lit<, length-drop, length-take-le}
use Rattle.wire.specs.Bytes.{number_of}
use Rattle.wire.specs.Held.{Below, none, more, below_take, below_drop, number_below}
use Rattle.ticket_kinds.specs.Kinds.{window_of, window_code, window_beta, fields_of, field_count, ticket_of}
use Rattle.ticket_kinds.specs.KindsLaws.{by_kind}
use Rattle.ticket_kinds.specs.declared.Ticket.{Ticket}
use Rattle.ticket_kinds.specs.declared.TicketWindow.{TicketWindow}
use Rattle.ticket_kinds.specs.declared.TicketWindow.TheVariants.{Hann, Hamming, Blackman, Kaiser, Loaded}
use Rattle.ticket_kinds.specs.declared.numbers.Numbers.{Numbers}
use Rattle.ticket_card.specs.Card.{fields_in, kind_in, read_of, found}
use Rattle.ticket_card.specs.Readings.{numbers_in, read_begins}
use Rattle.ticket_record.specs.Record.{field_list}

below_at : {xs : List ℕ} → Below (2 ^ 64) xs → (i : ℕ) → get_or xs i 0 < 2 ^ 64
below_at none i = lit< tt
below_at (more h b) zero = h
below_at (more h b) (suc i) = below_at b i

code_small : (w : TicketWindow) → window_code w < 2 ^ 64
code_small Hann = lit< tt
code_small Hamming = lit< tt
code_small Blackman = lit< tt
code_small (Kaiser beta) = lit< tt
code_small (Loaded c) = lit< tt

beta_small : (beta : ℕ) → beta < 2 ^ 64 → (a b c : Bool) → window_beta (cond a Hann (cond b Hamming (cond c Blackman (Kaiser beta)))) < 2 ^ 64
beta_small beta h true b c = lit< tt
beta_small beta h false true c = lit< tt
beta_small beta h false false true = lit< tt
beta_small beta h false false false = h

-- ---- made of such numbers
pub ticket_fits : (k : ℕ) (xs : List ℕ) → eqb (field_count k) 0 ≡ false → Below (2 ^ 64) xs → Below (2 ^ 64) (fields_of (ticket_of k xs))
unfolding ticket_of
ticket_fits k xs h b =
    let x = below_at b in
    let c : ℕ = get_or xs 2 0 in
    let e : ℕ = get_or xs 3 0 in
    by_kind (λ (k : ℕ). Below (2 ^ 64) (fields_of (ticket_of k xs)))
    (more (x 0) (more (x 1) (more (code_small (window_of c e)) (more (beta_small e (x 3) (eqb c 0) (eqb c 1) (eqb c 2)) (more (x 4) none)))))
    (more (x 0) (more (x 1) (more (x 2) (more (x 3) (more (x 4) none)))))
    (more (x 0) (more (x 1) none))
    (more (x 0) (more (x 1) (more (x 2) none)))
    (more (x 0) (more (x 1) (more (x 2) none)))
    (more (x 0) (more (x 1) (more (x 2) (more (x 3) (more (x 4) none)))))
    k h

-- as C gives them
pub numbers_fit : (n : Numbers) → n.first < 2 ^ 64 → n.second < 2 ^ 64 → n.third < 2 ^ 64 → n.fourth < 2 ^ 64 → n.fifth < 2 ^ 64 → Below (2 ^ 64) (field_list n)
numbers_fit n a b c d e = more a (more b (more c (more d (more e none))))

-- ---- read from bytes
fields_below : (n : ℕ) (d : List ℕ) → 8 * n ≤ length d → Below 256 d → Below (2 ^ 64) (fields_in n d)
unfolding fields_in
fields_below zero d h b = none
fields_below (suc n) d h b =
    more (lt_of_lt_of_le (subst (λ (m : ℕ). number_of (take 8 d) < 256 ^ m) (length-take-le 8 d (omega arith)) (number_below (take 8 d) (below_take 8 b))) (lit≤ tt))
    (fields_below n (drop 8 d) (omega (arith, length-drop 8 d)) (below_drop 8 b))

pub read_fits : (d : List ℕ) (t : Ticket) (k : ℕ) → read_of d ≡ found t k → Below 256 d → Below (2 ^ 64) (fields_of t)
read_fits d t k e b =
    let g = read_begins d t k e in
    let l = length-drop 6 d in
    let r = g.there in
    subst (λ (t : Ticket). Below (2 ^ 64) (fields_of t)) g.ticket
    (ticket_fits (kind_in d) (numbers_in d) g.known (fields_below (field_count (kind_in d)) (drop 6 d) (omega (arith, l, r)) (below_drop 6 b)))
