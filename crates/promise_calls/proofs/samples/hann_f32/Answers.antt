-- `promise_calls::samples::hann_f32` meets its contract: what its export ensures, by demand 1. Assumes nothing.
use Rattle.c_windows.specs.Codes.{symmetry_of}
use Rattle.c_windows.specs.declared.sample.Sample.TheVariants.{Single}
use Rattle.promise_refusals.specs.Exports.{window_bytes_lem}
use Rattle.promise_refusals.proofs.Kept.{filled_or_kept}
use Rattle.win_sampled.specs.declared.shape.Shape.TheVariants.{Hann}
use lib.ListN.{length}
use Rattle.promise_calls.proofs.samples.hann_f32.Goals as goal

pub returns : goal.returns
returns c =
    let a = c.args in
    filled_or_kept (window_bytes_lem Single Hann (symmetry_of a.symmetry) (length a.out.now)) c.pel_hann_f32.ensures c.pel_hann_f32.auto.out
