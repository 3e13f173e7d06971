-- `promise_calls::cosines::load_cosines` meets its contract: what its export ensures, by demand 1 and since the windows
-- that are built in are taken. Assumes nothing.
use Rattle.promise_refusals.proofs.Kept.{loaded_or_none}
use Rattle.promise_cosines.specs.LoadedLaws.{takes_built_ins}
use Rattle.promise_calls.proofs.cosines.load_cosines.Goals as goal

pub returns : goal.returns
returns c =
    let s = c.args.src.now in
    record { loaded_or_none = loaded_or_none s c.pel_load_cosines.ensures; takes_built_ins = takes_built_ins s c.pel_load_cosines.ensures }
