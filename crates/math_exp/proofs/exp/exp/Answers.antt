-- `math_exp::exp::exp` meets its contract. Assumes nothing.
use Rattle.std.proofs.Common.{◌≡◌, T, sym, subst}
use lib.Ieee.{binary64, of_bits, of_int, round, neg, div, fits}
use Rattle.math_exp.specs.Exp.{L1, L2, doublings, rest}
use Rattle.math_exp.specs.ExpLaws.{Below, doublings_below, below_700, exp_inside, above_0}
use Rattle.math_exp.proofs.exp.exp.Goals as goal

pub returns-then-x : goal.returns-then-x
unfolding of_int of_bits neg
returns-then-x c = below_700 c.args.x c.if-x.true

pub two_to-requires : goal.two_to-requires
unfolding of_int of_bits neg doublings round
two_to-requires c =
    let held : T (fits binary64 c.args.x) = subst T (sym c.well_formed.0.1) tt in
    let doubled : c.floor-k.result ≡ doublings c.args.x = c.floor-k.ensures in
    subst Below (sym doubled) (doublings_below c.args.x held c.if-x.false c.if-x-2.true)

pub returns-then-x-2 : goal.returns-then-x-2
unfolding rest L1 L2 of_int of_bits round neg doublings
returns-then-x-2 c =
    let doubled : c.floor-k.result ≡ doublings c.args.x = c.floor-k.ensures in
    rw (c.exp_series.ensures, c.two_to.ensures, doubled) (exp_inside c.args.x c.if-x.false c.if-x-2.true)

pub returns-else-x-2 : goal.returns-else-x-2
unfolding of_int of_bits neg div
returns-else-x-2 c = above_0 c.args.x c.if-x.false c.if-x-2.false
