-- `promise_calls::designs::rrc` meets its contract: what its export ensures, by demand 1. Assumes nothing.
use Rattle.promise_refusals.specs.Exports.{rrc_bytes_lem}
use Rattle.promise_refusals.proofs.Kept.{filled_or_kept}
use lib.ListN.{length}
use Rattle.promise_calls.proofs.designs.rrc.Goals as goal

pub returns : goal.returns
returns c =
    let a = c.args in
    filled_or_kept (rrc_bytes_lem a.rolloff a.samples a.span (length a.out.now)) c.pel_rrc.ensures c.pel_rrc.auto.out
