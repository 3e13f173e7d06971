-- `ticket_bytes::lowpasses::put_spec` meets its contract: the length, and then what `spec_prepare` answers. Assumes
-- nothing.
use mathlib.Core.Path.{ap}
use Prim.Native.Nat.{ℕ, ◌/◌}
use lib.ListN.{length}
use Rattle.verdict.specs.Outcome.{Outcome}
use Rattle.fir_lowpass.specs.Lowpass.{outcome_of}
use Rattle.fir_spec.specs.Spec.{spec_design_of}
use Rattle.fir_spec.specs.SpecLaws.{spec_count}
use Rattle.wire.proofs.WritesLaws.{room, leaves_part, writes_whole}
use Rattle.ticket_taps.specs.FitsLaws.{fits}
use Rattle.ticket_bytes.proofs.lowpasses.put_spec.Goals as goal

pub returns-then-len-ne0 : goal.returns-then-len-ne0
returns-then-len-ne0 c =
    let len : ℕ = length c.args.out.now in
    let outcome : Outcome = outcome_of (spec_design_of c.args.spec c.args.rate c.args.cap (len / 8)) in
    leaves_part 8 len outcome c.if-len-ne0.true c.from.ensures

pub returns : goal.returns
returns c =
    let len : ℕ = length c.args.out.now in
    let outcome : Outcome = outcome_of (spec_design_of c.args.spec c.args.rate c.args.cap (len / 8)) in
    writes_whole 8 len outcome c.if-len-ne0.false (ap outcome_of c.spec_prepare-designed.ensures.is) (c.write.ensures (fits len c.spec_prepare-designed.ensures (room len c.if-len-ne0.false outcome (spec_count c.args.spec c.args.rate c.args.cap (len / 8)))))
