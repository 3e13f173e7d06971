-- `ticket_taps::put_quotients` meets its contract. The loop's invariant: the first i taps stand in the buffer, and the
-- rest is as it came. Assumes nothing.
use Rattle.std.proofs.Common.{◌≤◌}
use lib.Ieee.{binary64, to_bits}
use Rattle.wire.specs.WrittenPrefix.{WrittenPrefix}
use Rattle.ticket_taps.proofs.put_quotients.Given as goal

abbrev pub invariant-loop-i : goal.invariant-loop-i
invariant-loop-i g l =
    let kind = g.D.Design in
    (l.i ≤ l.m) × WrittenPrefix 8 (kind.keeps l.fn.design l.raws) (λ k. to_bits binary64 (kind.tap l.fn.design k)) l.initial.out l.i l.out
