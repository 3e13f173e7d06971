-- `ticket_bytes::lowpasses::put_prototype` meets its contract: the length, and then what `fitted` answers. Assumes
-- nothing.
use Rattle.std.specs.Prelude.{Result}
use mathlib.Core.Path.{ap}
use Prim.Native.Nat.{ℕ, ◌/◌}
use lib.ListN.{length}
use Rattle.verdict.specs.Outcome.{Outcome}
use Rattle.fir_lowpass.specs.Lowpass.{outcome_of}
use Rattle.fir_channelizer.specs.Channelizer.{channelizer_lowpass_of, fitted_of}
use Rattle.fir_channelizer.specs.ChannelizerLaws.{channelizer_count}
use Rattle.wire.proofs.WritesLaws.{room, leaves_part, writes_whole}
use Rattle.ticket_taps.specs.FitsLaws.{fits}
use Rattle.ticket_bytes.proofs.lowpasses.put_prototype.Goals as goal
use Rattle.verdict.specs.declared.Refusal.{Refusal}
use Rattle.fir_lowpass.specs.declared.lowpass.Lowpass.{Lowpass}

pub returns-then-len-ne0 : goal.returns-then-len-ne0
returns-then-len-ne0 c =
    let len : ℕ = length c.args.out.now in
    let design : Result Lowpass Refusal = let a = c.args in channelizer_lowpass_of a.channels a.branch a.passband a.stopband a.attenuation in
    let outcome : Outcome = outcome_of (fitted_of design (len / 8)) in
    leaves_part 8 len outcome c.if-len-ne0.true c.from.ensures

pub returns : goal.returns
returns c =
    let len : ℕ = length c.args.out.now in
    let design : Result Lowpass Refusal = let a = c.args in channelizer_lowpass_of a.channels a.branch a.passband a.stopband a.attenuation in
    let outcome : Outcome = outcome_of (fitted_of design (len / 8)) in
    writes_whole 8 len outcome c.if-len-ne0.false (ap outcome_of c.fitted-designed.ensures.is) (c.write.ensures (fits len c.fitted-designed.ensures (room len c.if-len-ne0.false outcome (channelizer_count design (len / 8)))))
