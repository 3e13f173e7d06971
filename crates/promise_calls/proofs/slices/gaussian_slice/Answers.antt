-- `promise_calls::slices::gaussian_slice` meets its contract: what the function ensures, by demand 3. Assumes nothing.
use Rattle.promise_totals.proofs.SlicesLaws.{gaussian_filled}
use Rattle.promise_calls.proofs.slices.gaussian_slice.Goals as goal

pub returns : goal.returns
returns c =
    let a = c.args in
    gaussian_filled a.bt a.sps a.span c.gaussian.ensures
