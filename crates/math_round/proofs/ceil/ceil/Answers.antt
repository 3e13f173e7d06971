-- `math_round::ceil::ceil` meets its contract: the ceiling is the floor from the other side of zero. Assumes nothing.
use Rattle.std.proofs.Common.{sym, ap, ◌∙◌}
use lib.Ieee.{neg}
use Rattle.math_round.specs.Laws.{ceil_is}
use Rattle.math_round.proofs.ceil.ceil.Goals as goal

pub returns : goal.returns
returns c = ap neg c.floor.ensures ∙ sym (ceil_is c.args.x)
