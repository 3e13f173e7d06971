-- `wire::bits_of` meets its contract: moved up by 32768 the number isn't negative, and 32768 more bring its 16 bits.
-- Assumes nothing.
use Prim.Native.Nat.{ℕ, ◌+◌, ◌^◌, ◌<◌}
use native.Mathlib.Nat.{lt_of_lt_of_le}
use lib.Dec.{lit≤}
use native.Mathlib.Omega.{arith}
use Rattle.wire.proofs.Signed.{moved_is, back_is}
use Rattle.wire.proofs.bits_of.Goals as goal

pub overflow_cast-up : goal.overflow_cast-up
overflow_cast-up c = (moved_is c.args.q (record { sfits = c.well_formed.0 })).holds

pub overflow_add-up : goal.overflow_add-up
overflow_add-up c =
    let m = moved_is c.args.q (record { sfits = c.well_formed.0 }) in
    rw m.is (record { sfits = lt_of_lt_of_le m.small (lit≤ tt) })

pub overflow_cast-up-2 : goal.overflow_cast-up-2
overflow_cast-up-2 c =
    let m = moved_is c.args.q (record { sfits = c.well_formed.0 }) in
    rw (back_is c.args.q m) (tt, record { fits = lt_of_lt_of_le m.small (lit≤ tt) })

pub overflow_add-result : goal.overflow_add-result
overflow_add-result c =
    let m = moved_is c.args.q (record { sfits = c.well_formed.0 }) in
    rw (back_is c.args.q m) (record { fits = more m.at m.small })
  where
    more : (n : ℕ) → n < 65536 → n + 32768 < 2 ^ 64
    more n h = omega arith

pub returns : goal.returns
returns c =
    let m = moved_is c.args.q (record { sfits = c.well_formed.0 }) in
    rw (back_is c.args.q m) m.bits
