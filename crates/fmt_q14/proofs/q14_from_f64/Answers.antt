-- `fmt_q14::q14_from_f64` meets its contract: both ways give the floor, and the short one asks for a small size.
-- Assumes nothing.
use lib.Ieee.{of_bits, of_int, round, neg}
use Rattle.math_round.specs.NearPaths.{small_of}
use Rattle.fmt_q14.specs.Q14.{moved}
use Rattle.fmt_q14.proofs.q14_from_f64.Goals as goal

pub number-requires : goal.number-requires
unfolding moved of_int of_bits round neg
number-requires c = c.floor_small.ensures (small_of (moved c.args.x) c.if-w.true c.if-w-2.true)

pub number-requires-else-w : goal.number-requires-else-w
unfolding moved of_int of_bits round
number-requires-else-w c = c.floor.ensures
