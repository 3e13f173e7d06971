-- `promise_calls::slices::lowpass_slice` meets its contract: what the function ensures, by demand 3. Assumes nothing.
use Rattle.promise_totals.proofs.SlicesLaws.{lowpass_filled}
use Rattle.promise_calls.proofs.slices.lowpass_slice.Goals as goal

pub returns : goal.returns
returns c =
    let a = c.args in
    lowpass_filled a.cutoff a.rate a.window c.firwin_lowpass.ensures
