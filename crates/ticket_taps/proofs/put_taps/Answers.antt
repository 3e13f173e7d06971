-- `ticket_taps::put_taps` meets its contract. The loop's invariant: where the first taps stood in a buffer that came,
-- as many as the loop began with, the first i stand in it now. Assumes nothing.
use Rattle.std.proofs.Common.{◌≡◌, length, ap, ◌∙◌, arith}
use lib.Ieee.{Float, binary64, to_bits}
use Rattle.wire.specs.WrittenPrefix.{one_more}
use Rattle.ticket_taps.proofs.put_taps.Goals as goal

pub loop-i-preserved : goal.loop-i-preserved
loop-i-preserved g c =
    let same : length c.put_f64.new.out ≡ length c.loop-i.out = omega arith in
    (same ∙ c.loop-i.invariant.0, λ came e s. one_more (c.loop-i.invariant.1 came e s) (omega arith) (λ k. ap (λ (x : Float). to_bits binary64 x) (c.cached_tap-x.ensures k)) c.put_f64.ensures)
