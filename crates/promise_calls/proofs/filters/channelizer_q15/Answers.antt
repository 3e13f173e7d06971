-- `promise_calls::filters::channelizer_q15` meets its contract: what both exports ensure, by the chain to the filter. Assumes nothing.
use Rattle.promise_totals.proofs.FilterLaws.{channelizer_filter}
use Rattle.promise_calls.proofs.filters.channelizer_q15.Goals as goal

pub returns : goal.returns
returns c =
    let a = c.args in
    channelizer_filter a.channels a.branch a.passband a.stopband a.attenuation c.pel_channelizer_prototype-design.ensures c.pel_to_q15-conversion.ensures
