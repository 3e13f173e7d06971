-- `wire::put_f64` meets its contract. Assumes nothing.
use Rattle.wire.proofs.put_f64.Goals as goal

pub returns : goal.returns
returns c = cc
