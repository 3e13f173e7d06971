-- `math_bessel::bessel_i0` meets its contract. Assumes nothing.
use Rattle.math_bessel.specs.Laws.{start, half_of, series_is}
use Rattle.math_bessel.proofs.bessel_i0.Goals as goal

pub rest-requires : goal.rest-requires
rest-requires c = rw c.new.ensures (start (half_of c.args.x))

pub returns : goal.returns
returns c = series_is c.args.x (rw c.new.ensures at c.rest.ensures)
