-- `c_card::reading::pel_read_ticket` meets its contract: what `read` finds, told. Assumes nothing.
use Prim.Native.Nat.{ℕ}
use mathlib.Core.Path.{◌≡◌, sym, ap, ◌∙◌}
use lib.Ieee.{of_int, of_bits}
use Rattle.ticket_kinds.specs.declared.numbers.Numbers.{Numbers}
use Rattle.c_card.specs.Cards.{no_ticket, told_of}
use Rattle.c_card.proofs.reading.pel_read_ticket.Goals as goal

all_zero : (k a b c d e : ℕ) → k ≡ 0 → a ≡ 0 → b ≡ 0 → c ≡ 0 → d ≡ 0 → e ≡ 0 → ◌≡◌ {A = Numbers} (record { kind = k; first = a; second = b; third = c; fourth = d; fifth = e }) no_ticket
all_zero k a b c d e p q r s t u = rw (p, q, r, s, t, u)

pub returns-in-Ok : goal.returns-in-Ok
unfolding of_int of_bits
returns-in-Ok c = rw (c.accepted.ensures, c.from.ensures) (ap told_of (sym c.in-Ok.is ∙ c.read.ensures))

pub returns-in-Err : goal.returns-in-Err
returns-in-Err c =
    let h = c.default.ensures in
    let zeros : c.default.result ≡ no_ticket = all_zero _ _ _ _ _ _ h.0 h.1.0 h.1.1.0 h.1.1.1.0 h.1.1.1.1.0 h.1.1.1.1.1 in
    rw (c.from-in-Err.ensures, zeros) (ap told_of (sym c.in-Err.is ∙ c.read.ensures))
