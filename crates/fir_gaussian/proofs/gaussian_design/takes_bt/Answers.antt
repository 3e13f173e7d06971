-- `fir_gaussian::gaussian_design::takes_bt` meets its contract. Assumes nothing.
use Rattle.std.proofs.Common.{sym, ◌∙◌}
use lib.Ieee.{of_bits, of_int, round}
use Rattle.fir_gaussian.specs.Gaussian.{bt_taken}
use Rattle.fir_gaussian.proofs.gaussian_design.takes_bt.Goals as goal

pub returns-then-bt : goal.returns-then-bt
unfolding bt_taken of_int of_bits round
returns-then-bt c = sym (rw c.if-bt.true)

pub returns-else-bt : goal.returns-else-bt
unfolding bt_taken of_int of_bits round
returns-else-bt c = c.if-bt.false ∙ sym (rw c.if-bt.false)
