-- `promise_calls::coefficients::preemphasis_coefs` meets its contract: what its export ensures, by demand 1. Assumes nothing.
use Rattle.promise_refusals.specs.Exports.{preemphasis_bytes_lem}
use Rattle.promise_refusals.proofs.Kept.{filled_or_kept}
use lib.ListN.{length}
use Rattle.promise_calls.proofs.coefficients.preemphasis_coefs.Goals as goal

pub returns : goal.returns
returns c =
    let a = c.args in
    filled_or_kept (preemphasis_bytes_lem a.tau a.rate (length a.out.now)) c.pel_preemphasis_coefs.ensures c.pel_preemphasis_coefs.auto.out
