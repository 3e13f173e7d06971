-- `promise_calls::filters::gaussian_q15` meets its contract: what both exports ensure, by the chain to the filter. Assumes nothing.
use Rattle.promise_totals.proofs.FilterLaws.{gaussian_filter}
use Rattle.promise_calls.proofs.filters.gaussian_q15.Goals as goal

pub returns : goal.returns
returns c =
    let a = c.args in
    gaussian_filter a.bt a.samples a.span c.pel_gaussian-design.ensures c.pel_to_q15-conversion.ensures
