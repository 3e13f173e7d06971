-- `c_retune::write::left` meets its contract. Assumes nothing.
use mathlib.Core.Path.{sym}
use Rattle.c_retune.proofs.write.left.Goals as goal

pub returns : goal.returns
returns c = sym (rw (sym c.from.ensures))
