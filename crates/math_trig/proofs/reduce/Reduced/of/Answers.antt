-- `math_trig::reduce::Reduced::of` meets its contract. Assumes nothing.
use Rattle.std.proofs.Common.{◌≡◌, true, refl, sym, subst}
use lib.Ieee.{of_bits, of_int, round, le}
use Rattle.laws.specs.Tests.{holds}
use Rattle.math_round.specs.Whole.{abs_of}
use Rattle.math_trig.specs.Laws.{Small, turns_small, quarters_small}
use Rattle.math_trig.specs.Trig.{P1, P2, P3, P4, quarters, quadrant, rest, limit}
use Rattle.math_trig.proofs.reduce.Reduced.of.Goals as goal

pub modulo_4-requires : goal.modulo_4-requires
unfolding quarters of_int of_bits round
modulo_4-requires c =
    let inside : le (abs_of c.args.x) limit ≡ true = rw c.fabs.ensures at c.if-fabs.true in
    let turns : c.floor_small-k.result ≡ quarters c.args.x = c.floor_small-k.ensures (turns_small c.args.x (holds inside)) in
    subst Small (sym turns) (quarters_small c.args.x (holds inside))

pub returns-then-fabs : goal.returns-then-fabs
unfolding quadrant rest P1 P2 P3 P4 round of_bits quarters of_int
returns-then-fabs c =
    let inside : le (abs_of c.args.x) limit ≡ true = rw c.fabs.ensures at c.if-fabs.true in
    let turns : c.floor_small-k.result ≡ quarters c.args.x = c.floor_small-k.ensures (turns_small c.args.x (holds inside)) in
    record { inside = inside; quarter = rw (← turns) c.modulo_4.ensures; left = rw (← turns) refl }

pub returns-else-fabs : goal.returns-else-fabs
unfolding of_int of_bits
returns-else-fabs c = rw c.fabs.ensures at c.if-fabs.false
