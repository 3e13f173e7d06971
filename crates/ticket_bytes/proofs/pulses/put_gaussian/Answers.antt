-- `ticket_bytes::pulses::put_gaussian` meets its contract: the length, and then what `fitted` answers. Assumes nothing.
use Rattle.std.specs.Prelude.{Result}
use mathlib.Core.Path.{ap}
use Prim.Native.Nat.{ℕ, ◌/◌}
use lib.ListN.{length}
use Rattle.verdict.specs.Outcome.{Outcome}
use Rattle.fir_gaussian.specs.Gaussian.{gaussian_of, fitted_of, outcome_of}
use Rattle.fir_gaussian.specs.GaussianLaws.{gaussian_count}
use Rattle.wire.proofs.WritesLaws.{room, leaves_part, writes_whole}
use Rattle.ticket_taps.specs.FitsLaws.{fits}
use Rattle.ticket_bytes.proofs.pulses.put_gaussian.Goals as goal
use Rattle.verdict.specs.declared.Refusal.{Refusal}
use Rattle.fir_gaussian.specs.declared.gaussian_design.Gaussian.{Gaussian}

pub returns-then-len-ne0 : goal.returns-then-len-ne0
returns-then-len-ne0 c =
    let len : ℕ = length c.args.out.now in
    let design : Result Gaussian Refusal = let a = c.args in gaussian_of a.bt a.samples a.span in
    let outcome : Outcome = outcome_of (fitted_of design (len / 8)) in
    leaves_part 8 len outcome c.if-len-ne0.true c.from.ensures

pub returns : goal.returns
returns c =
    let len : ℕ = length c.args.out.now in
    let design : Result Gaussian Refusal = let a = c.args in gaussian_of a.bt a.samples a.span in
    let outcome : Outcome = outcome_of (fitted_of design (len / 8)) in
    writes_whole 8 len outcome c.if-len-ne0.false (ap outcome_of c.fitted-designed.ensures.is) (c.write.ensures (fits len c.fitted-designed.ensures (room len c.if-len-ne0.false outcome (gaussian_count design (len / 8)))))
