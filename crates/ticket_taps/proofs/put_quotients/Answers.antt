-- `ticket_taps::put_quotients` meets its contract. The loop's invariant: the first i taps stand in the buffer, and the
-- rest is as it came. Assumes nothing.
use Rattle.std.proofs.Common.{ap, ◌∙◌, arith, get_or}
use Rattle.std.specs.Float.{nan}
use lib.Ieee.{Float, binary64, to_bits}
use Rattle.laws.specs.Binary64.{◌⊘◌}
use Rattle.wire.specs.WrittenPrefix.{at_first, one_more}
use Rattle.ticket_taps.proofs.put_quotients.Goals as goal

pub loop-i-init : goal.loop-i-init
loop-i-init g c = (omega arith, at_first _ _ _ _)

pub loop-i-preserved : goal.loop-i-preserved
loop-i-preserved g c =
    let i = c.loop-i.i in
    let raw : Float = get_or c.args.raws.now i nan in
    (omega arith, one_more c.loop-i.invariant.1 (omega arith) (λ k. ap (λ (x : Float). to_bits binary64 x) (ap (λ (x : Float). raw ⊘ x) c.divisor-divisor.ensures ∙ c.quotients.ensures.taps k i (omega arith))) c.put_f64.ensures)
