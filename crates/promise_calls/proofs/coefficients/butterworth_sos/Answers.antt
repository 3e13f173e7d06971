-- `promise_calls::coefficients::butterworth_sos` meets its contract: what its export ensures, by demand 1 and since even
-- orders are kept. Assumes nothing.
use Rattle.c_sections.specs.Codes.{response_of}
use Rattle.c_sections.specs.EvenOrders.{keeps_even}
use Rattle.promise_refusals.specs.Exports.{butterworth_bytes_lem}
use Rattle.promise_refusals.proofs.Kept.{filled_or_kept}
use lib.ListN.{length}
use Rattle.promise_calls.proofs.coefficients.butterworth_sos.Goals as goal

pub returns : goal.returns
returns c =
    let a = c.args in
    let r = response_of a.response in
    record { filled_or_kept = filled_or_kept (butterworth_bytes_lem r a.order a.cutoff a.rate (length a.out.now)) c.pel_butterworth_sos.ensures c.pel_butterworth_sos.auto.out; keeps_even = keeps_even r a.order a.cutoff a.rate c.pel_butterworth_sos.ensures }
