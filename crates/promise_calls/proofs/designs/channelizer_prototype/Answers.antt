-- `promise_calls::designs::channelizer_prototype` meets its contract: what its export ensures, by demands 1 and 3. Assumes nothing.
use Rattle.promise_refusals.specs.Exports.{channelizer_bytes_lem}
use Rattle.promise_refusals.proofs.Kept.{filled_or_kept}
use Rattle.promise_totals.proofs.WrittenLaws.{channelizer_written}
use lib.ListN.{length}
use Rattle.promise_calls.proofs.designs.channelizer_prototype.Goals as goal

pub returns : goal.returns
returns c =
    let a = c.args in
    record { filled_or_kept = filled_or_kept (channelizer_bytes_lem a.channels a.branch a.passband a.stopband a.attenuation (length a.out.now)) c.pel_channelizer_prototype.ensures c.pel_channelizer_prototype.auto.out; totals = channelizer_written a.channels a.branch a.passband a.stopband a.attenuation _ _ _ c.pel_channelizer_prototype.ensures }
