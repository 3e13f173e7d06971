-- `fir_length::order::halfband_len` meets its contract. Assumes nothing.
use mathlib.Core.Path.{◌≡◌}
use Prim.Native.Nat.{ℕ, ◌+◌, ◌%◌}
use borrow.Author.Tests.{eq-eqb, ne_eqb}
use Rattle.std.proofs.Common.{rules}
use Rattle.fir_length.specs.Kaiser.{halfband_up, halfband_len_of}
use Rattle.fir_length.proofs.order.halfband_len.Goals as goal

up : (n : ℕ) → n % 4 ≡ 1 → halfband_up n ≡ n + 2
unfolding halfband_up
up n e = rw (eq-eqb (n % 4) 1 e)

stays : (n : ℕ) → (n % 4 ≡ 1 → ⊥) → halfband_up n ≡ n
unfolding halfband_up
stays n e = rw (ne_eqb (n % 4) 1 e)

pub returns-in_err-order : goal.returns-in_err-order
unfolding halfband_len_of
returns-in_err-order c = search rules

pub returns-then-n-eq1 : goal.returns-then-n-eq1
unfolding halfband_len_of
returns-then-n-eq1 c = search (rules, up)

pub returns-else-n-eq1 : goal.returns-else-n-eq1
unfolding halfband_len_of
returns-else-n-eq1 c = search (rules, stays)
