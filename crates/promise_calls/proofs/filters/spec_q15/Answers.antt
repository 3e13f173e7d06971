-- `promise_calls::filters::spec_q15` meets its contract: what both exports ensure, by the chain to the filter. Assumes nothing.
use Rattle.c_lowpass.specs.Spec.{spec_of}
use Rattle.promise_totals.proofs.FilterLaws.{spec_filter}
use Rattle.promise_calls.proofs.filters.spec_q15.Goals as goal

pub returns : goal.returns
returns c =
    let a = c.args in
    spec_filter (spec_of a.cutoff a.transition a.attenuation) a.rate a.cap c.pel_spec_design-design.ensures c.pel_to_q15-conversion.ensures
