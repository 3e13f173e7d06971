-- `fmt_q15::q15::takes_tap` meets its contract. Assumes nothing.
use mathlib.Core.Path.{ap}
use lib.Ieee.{Float, of_bits, of_int, round, sub, add, mul, div, neg, le}
use Rattle.fmt_q15.specs.Q15.{takes, limit}
use Rattle.fmt_q15.proofs.q15.takes_tap.Goals as goal

pub returns : goal.returns
unfolding takes of_bits of_int round sub add mul div neg
returns c = ap (λ (x : Float). le x limit) c.fabs.ensures
