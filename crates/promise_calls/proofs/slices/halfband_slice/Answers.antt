-- `promise_calls::slices::halfband_slice` meets its contract: what the function ensures, by demand 3. Assumes nothing.
use Rattle.promise_totals.proofs.SlicesLaws.{halfband_filled, halfband_mirrors}
use Rattle.promise_calls.proofs.slices.halfband_slice.Goals as goal

pub returns : goal.returns
returns c =
    let a = c.args in
    record { slice_totals = halfband_filled a.beta c.halfband_taps.ensures; slice_mirrors = halfband_mirrors a.beta c.halfband_taps.ensures }
