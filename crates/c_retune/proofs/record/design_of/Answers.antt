-- `c_retune::record::design_of` meets its contract. Assumes nothing.
use mathlib.Core.Path.{sym}
use Rattle.c_retune.proofs.record.design_of.Goals as goal

pub returns : goal.returns
returns c = sym (rw (sym c.shape_of.ensures, sym c.code_of.ensures))
