-- `ticket_codes::window_of` meets its contract, a code at a time. Assumes nothing.
use Rattle.std.specs.Prelude.{None}
use mathlib.Core.Path.{◌≡◌, refl}
use Prim.Native.Nat.{ℕ, zero, suc, ◌<◌}
use native.Mathlib.Omega.{arith}
use lib.Ieee.{Float}
use Rattle.ticket_codes.specs.Codes.{window_of}
use Rattle.ticket_codes.proofs.window_of.Goals as goal

other : (code : ℕ) (beta : Float) → 3 < code → None ≡ window_of code beta
unfolding window_of
other zero beta h = absurd (omega arith)
other (suc zero) beta h = absurd (omega arith)
other (suc (suc zero)) beta h = absurd (omega arith)
other (suc (suc (suc zero))) beta h = absurd (omega arith)
other (suc (suc (suc (suc code)))) beta h = refl

pub returns-in-0 : goal.returns-in-0
unfolding window_of
returns-in-0 c = rw c.in-0.is

pub returns-in-1 : goal.returns-in-1
unfolding window_of
returns-in-1 c = rw c.in-1.is

pub returns-in-2 : goal.returns-in-2
unfolding window_of
returns-in-2 c = rw c.in-2.is

pub returns-in-3 : goal.returns-in-3
unfolding window_of
returns-in-3 c = rw c.in-3.is

pub returns-in_default : goal.returns-in_default
returns-in_default c =
    let rest = c.in_default.in_default-own.rest in
    other c.args.code c.args.beta (omega (arith, rest.1, rest.0.1, rest.0.0.1, rest.0.0.0.1))
