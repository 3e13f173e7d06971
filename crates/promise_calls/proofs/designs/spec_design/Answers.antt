-- `promise_calls::designs::spec_design` meets its contract: what its export ensures, by demands 1 and 3. Assumes nothing.
use Rattle.c_lowpass.specs.Spec.{spec_of}
use Rattle.promise_refusals.specs.Exports.{spec_bytes_lem}
use Rattle.promise_refusals.proofs.Kept.{filled_or_kept}
use Rattle.promise_totals.proofs.WrittenLaws.{spec_written}
use lib.ListN.{length}
use Rattle.promise_calls.proofs.designs.spec_design.Goals as goal

pub returns : goal.returns
returns c =
    let a = c.args in
    record { filled_or_kept = filled_or_kept (spec_bytes_lem (spec_of a.cutoff a.transition a.attenuation) a.rate a.cap (length a.out.now)) c.pel_spec_design.ensures c.pel_spec_design.auto.out; totals = spec_written (spec_of a.cutoff a.transition a.attenuation) a.rate a.cap _ _ _ c.pel_spec_design.ensures }
