-- `promise_calls::designs::halfband` meets its contract: what its export ensures, by demands 1 and 3 and since up to
-- 713 every series settles. Assumes nothing.
use Rattle.promise_refusals.specs.Exports.{halfband_bytes_lem}
use Rattle.promise_refusals.proofs.Kept.{filled_or_kept}
use Rattle.promise_settling.specs.TakenLaws.{halfband_taken}
use Rattle.promise_totals.proofs.MirrorLaws.{halfband_mirrored, halfband_zeros}
use Rattle.promise_totals.proofs.WrittenLaws.{halfband_written}
use lib.ListN.{length}
use Rattle.promise_calls.proofs.designs.halfband.Goals as goal

pub returns : goal.returns
returns c =
    let a = c.args in
    record { filled_or_kept = filled_or_kept (halfband_bytes_lem a.beta (length a.out.now)) c.pel_halfband.ensures c.pel_halfband.auto.out; totals = halfband_written a.beta _ _ _ c.pel_halfband.ensures; mirrored = halfband_mirrored a.beta _ _ _ c.pel_halfband.ensures; vanishes = halfband_zeros a.beta _ _ _ c.pel_halfband.ensures; taken_to713 = halfband_taken a.beta c.pel_halfband.ensures }
