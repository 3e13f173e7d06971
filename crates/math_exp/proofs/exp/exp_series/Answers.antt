-- `math_exp::exp::exp_series` meets its contract: the definition, worked out. Assumes nothing.
use Rattle.std.proofs.Common.{refl}
use lib.Ieee.{of_bits, of_int, div}
use Rattle.laws.specs.Binary64.{fact, over, nested}
use Rattle.math_exp.specs.Exp.{exp_terms, exp_series}
use Rattle.math_exp.proofs.exp.exp_series.Goals as goal

pub returns : goal.returns
unfolding exp_series exp_terms nested over fact of_int of_bits div
returns c = refl
