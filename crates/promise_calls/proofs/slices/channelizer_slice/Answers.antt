-- `promise_calls::slices::channelizer_slice` meets its contract: what the function ensures, by demand 3. Assumes nothing.
use Rattle.promise_totals.proofs.SlicesLaws.{channelizer_filled}
use Rattle.promise_calls.proofs.slices.channelizer_slice.Goals as goal

pub returns : goal.returns
returns c =
    let a = c.args in
    channelizer_filled a.channels a.branch a.passband a.stopband a.attenuation c.channelizer_prototype.ensures
