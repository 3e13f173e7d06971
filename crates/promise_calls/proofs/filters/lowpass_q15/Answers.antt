-- `promise_calls::filters::lowpass_q15` meets its contract: what both exports ensure, by the chain to the filter. Assumes nothing.
use Rattle.ticket_codes.specs.Codes.{window_of}
use Rattle.promise_totals.proofs.FilterLaws.{lowpass_filter}
use Rattle.promise_calls.proofs.filters.lowpass_q15.Goals as goal

pub returns : goal.returns
returns c =
    let a = c.args in
    lowpass_filter a.cutoff a.rate (window_of a.window a.beta) c.pel_lowpass-design.ensures c.pel_to_q15-conversion.ensures
