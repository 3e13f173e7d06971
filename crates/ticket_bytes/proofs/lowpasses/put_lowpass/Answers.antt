-- `ticket_bytes::lowpasses::put_lowpass` meets its contract: the length, and then what `prepare` answers. Assumes
-- nothing.
use mathlib.Core.Path.{ap}
use Prim.Native.Nat.{ℕ, ◌/◌}
use lib.ListN.{length}
use Rattle.verdict.specs.Outcome.{Outcome}
use Rattle.fir_lowpass.specs.Lowpass.{lowpass_of, outcome_of}
use Rattle.fir_lowpass.proofs.LowpassLaws.{lowpass_count}
use Rattle.wire.proofs.WritesLaws.{room, leaves_part, writes_whole}
use Rattle.ticket_taps.specs.FitsLaws.{fits}
use Rattle.ticket_bytes.proofs.lowpasses.put_lowpass.Goals as goal

pub returns-then-len-ne0 : goal.returns-then-len-ne0
returns-then-len-ne0 c =
    let len : ℕ = length c.args.out.now in
    let outcome : Outcome = outcome_of (lowpass_of c.args.cutoff c.args.rate c.args.window (len / 8)) in
    leaves_part 8 len outcome c.if-len-ne0.true c.from.ensures

pub returns : goal.returns
returns c =
    let len : ℕ = length c.args.out.now in
    let outcome : Outcome = outcome_of (lowpass_of c.args.cutoff c.args.rate c.args.window (len / 8)) in
    writes_whole 8 len outcome c.if-len-ne0.false (ap outcome_of c.prepare-designed.ensures.is) (c.write.ensures (fits len c.prepare-designed.ensures (room len c.if-len-ne0.false outcome (lowpass_count c.args.cutoff c.args.rate c.args.window (len / 8)))))
