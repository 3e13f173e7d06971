-- `promise_calls::coefficients::biquad_coefs` meets its contract: what its export ensures, by demand 1. Assumes nothing.
use Rattle.c_sections.specs.Codes.{response_of}
use Rattle.promise_refusals.specs.Exports.{biquad_bytes_lem}
use Rattle.promise_refusals.proofs.Kept.{filled_or_kept}
use lib.ListN.{length}
use Rattle.promise_calls.proofs.coefficients.biquad_coefs.Goals as goal

pub returns : goal.returns
returns c =
    let a = c.args in
    filled_or_kept (biquad_bytes_lem (response_of a.response) a.centre a.q a.rate (length a.out.now)) c.pel_biquad_coefs.ensures c.pel_biquad_coefs.auto.out
