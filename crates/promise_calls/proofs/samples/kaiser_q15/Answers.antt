-- `promise_calls::samples::kaiser_q15` meets its contract: what its export ensures, by demand 1 and since
-- its series have settled. Assumes nothing.
use Rattle.c_windows.specs.Codes.{symmetry_of}
use Rattle.c_windows.specs.Samples.{width_of}
use Rattle.c_windows.specs.declared.sample.Sample.TheVariants.{Q15}
use Rattle.promise_refusals.specs.Exports.{window_bytes_lem}
use Rattle.promise_refusals.proofs.Kept.{filled_or_kept}
use Rattle.promise_settling.specs.SamplesLaws.{finite_samples}
use Rattle.promise_settling.specs.TakenLaws.{window_taken}
use Rattle.win_sampled.specs.declared.shape.Shape.TheVariants.{Kaiser}
use lib.ListN.{length}
use Rattle.promise_calls.proofs.samples.kaiser_q15.Goals as goal

pub returns : goal.returns
unfolding width_of
returns c =
    let a = c.args in
    record { filled_or_kept = filled_or_kept (window_bytes_lem Q15 (Kaiser a.beta) (symmetry_of a.symmetry) (length a.out.now)) c.pel_kaiser_q15.ensures c.pel_kaiser_q15.auto.out; finite_samples = finite_samples Q15 a.beta (symmetry_of a.symmetry) c.pel_kaiser_q15.ensures; taken_to713 = window_taken Q15 a.beta (symmetry_of a.symmetry) c.pel_kaiser_q15.ensures }
