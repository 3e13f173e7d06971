-- `ticket_bytes::pulses::put_halfband` meets its contract: the length, and then what `prepare` answers. Assumes
-- nothing.
use mathlib.Core.Path.{ap}
use Prim.Native.Nat.{ℕ, ◌/◌}
use lib.ListN.{length}
use Rattle.verdict.specs.Outcome.{Outcome}
use Rattle.fir_halfband.specs.Halfband.{halfband_of, outcome_of}
use Rattle.fir_halfband.specs.HalfbandLaws.{halfband_count}
use Rattle.wire.proofs.WritesLaws.{room, leaves_part, writes_whole}
use Rattle.ticket_taps.specs.FitsLaws.{fits}
use Rattle.ticket_bytes.proofs.pulses.put_halfband.Goals as goal

pub returns-then-len-ne0 : goal.returns-then-len-ne0
returns-then-len-ne0 c =
    let len : ℕ = length c.args.out.now in
    let outcome : Outcome = outcome_of (halfband_of c.args.beta (len / 8)) in
    leaves_part 8 len outcome c.if-len-ne0.true c.from.ensures

pub returns : goal.returns
returns c =
    let len : ℕ = length c.args.out.now in
    let outcome : Outcome = outcome_of (halfband_of c.args.beta (len / 8)) in
    writes_whole 8 len outcome c.if-len-ne0.false (ap outcome_of c.prepare-designed.ensures.is) (c.write.ensures (fits len c.prepare-designed.ensures (room len c.if-len-ne0.false outcome (halfband_count c.args.beta (len / 8)))))
