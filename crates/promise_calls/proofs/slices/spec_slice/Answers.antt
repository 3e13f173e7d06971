-- `promise_calls::slices::spec_slice` meets its contract: what the function ensures, by demand 3. Assumes nothing.
use Rattle.promise_totals.proofs.SlicesLaws.{spec_filled}
use Rattle.promise_calls.proofs.slices.spec_slice.Goals as goal

pub returns : goal.returns
returns c =
    let a = c.args in
    spec_filled a.spec a.rate a.cap c.design.ensures
