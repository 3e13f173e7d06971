-- `promise_calls::filters::halfband_q15` meets its contract: what both exports ensure, by the chain to the filter. Assumes nothing.
use Rattle.promise_totals.proofs.FilterLaws.{halfband_filter}
use Rattle.promise_calls.proofs.filters.halfband_q15.Goals as goal

pub returns : goal.returns
returns c =
    let a = c.args in
    halfband_filter a.beta c.pel_halfband-design.ensures c.pel_to_q15-conversion.ensures
