-- `promise_calls::designs::gaussian` meets its contract: what its export ensures, by demands 1 and 3. Assumes nothing.
use Rattle.promise_refusals.specs.Exports.{gaussian_bytes_lem}
use Rattle.promise_refusals.proofs.Kept.{filled_or_kept}
use Rattle.promise_totals.proofs.WrittenLaws.{gaussian_written}
use lib.ListN.{length}
use Rattle.promise_calls.proofs.designs.gaussian.Goals as goal

pub returns : goal.returns
returns c =
    let a = c.args in
    record { filled_or_kept = filled_or_kept (gaussian_bytes_lem a.bt a.samples a.span (length a.out.now)) c.pel_gaussian.ensures c.pel_gaussian.auto.out; totals = gaussian_written a.bt a.samples a.span _ _ _ c.pel_gaussian.ensures }
