-- `math_round::floor::floor` meets its contract: both ways give the floor, and the short one asks for a small size.
-- Assumes nothing.
use Rattle.std.proofs.Common.{◌≡◌, ℕ, ◌+◌, ◌-◌, ◌*◌, ◌/◌, ◌<◌, true, false, sym, refl, ap, ◌∙◌, arith}
use Rattle.std.specs.Float.{floor, round_with}
use lib.Ieee.{Float, nan, inf, fin, binary64, up, down, round, of_bits, neg}
use lib.Ieee.Fits.{down_pos}
use Rattle.laws.specs.Floor.{upward, floor_z}
use Rattle.math_round.specs.Laws.{abs_neg}
use Rattle.math_round.specs.NearPaths.{small_of}
use Rattle.math_round.specs.Whole.{as_float, floor_of}
use Rattle.math_round.proofs.floor.floor.Goals as goal

-- std's word for the floor
same_floor : (x : Float) → floor binary64 x ≡ floor_of x
unfolding round_with floor_of as_float floor_z
same_floor nan = refl
same_floor (inf s) = refl
same_floor (fin false m e) = refl
same_floor (fin true m e) =
    let n = m * up e in
    let d = down e in
    let up : (n + d - 1) / d ≡ upward n d = ap (λ (z : ℕ). z / d) (moved n d (down_pos e)) in
    ap (λ (z : ℕ). round binary64 true z 1) (up ∙ sym (abs_neg (upward n d)))
  where
    moved : (n d : ℕ) → 0 < d → n + d - 1 ≡ n + (d - 1)
    moved n d h = omega arith

pub returns-then-x-2 : goal.returns-then-x-2
unfolding of_bits neg
returns-then-x-2 c = c.floor_small.ensures (small_of c.args.x c.if-x.true c.if-x-2.true)

-- beyond 2^50 std's floor serves: a size from 2^52 on has no fraction,
-- and its answer is the definition's in every case
pub returns-else-x : goal.returns-else-x
returns-else-x c = c.floor.ensures ∙ same_floor c.args.x
