-- `promise_calls::samples::blackman_harris_q15` meets its contract: what its export ensures, by demand 1. Assumes nothing.
use Rattle.c_windows.specs.Codes.{symmetry_of}
use Rattle.c_windows.specs.declared.sample.Sample.TheVariants.{Q15}
use Rattle.promise_refusals.specs.Exports.{window_bytes_lem}
use Rattle.promise_refusals.proofs.Kept.{filled_or_kept}
use Rattle.win_sampled.specs.declared.shape.Shape.TheVariants.{BlackmanHarris}
use lib.ListN.{length}
use Rattle.promise_calls.proofs.samples.blackman_harris_q15.Goals as goal

pub returns : goal.returns
returns c =
    let a = c.args in
    filled_or_kept (window_bytes_lem Q15 BlackmanHarris (symmetry_of a.symmetry) (length a.out.now)) c.pel_blackman_harris_q15.ensures c.pel_blackman_harris_q15.auto.out
