-- `math_round::fabs::fabs` meets its contract. Each path is a fact of `proofs/AbsPaths`. Assumes nothing.
use Rattle.std.proofs.Common.{T, sym, subst, ◌∙◌}
use lib.Ieee.{binary64, fits}
use Rattle.math_round.proofs.AbsPaths.{at_nan, made, without_sign}
use Rattle.math_round.proofs.fabs.fabs.Goals as goal

pub float_from_bits-result : goal.float_from_bits-result
float_from_bits-result c =
    let held : T (fits binary64 c.args.x) = subst T (sym c.well_formed.0.1) tt in
    made c.args.x held (sym c.is_nan.ensures.value ∙ c.if-is_nan.false)

pub returns-then-is_nan : goal.returns-then-is_nan
returns-then-is_nan c = at_nan c.args.x (sym c.is_nan.ensures.value ∙ c.if-is_nan.true)

pub returns-else-is_nan : goal.returns-else-is_nan
returns-else-is_nan c =
    let held : T (fits binary64 c.args.x) = subst T (sym c.well_formed.0.1) tt in
    without_sign c.args.x held (sym c.is_nan.ensures.value ∙ c.if-is_nan.false)
