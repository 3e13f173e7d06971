-- `math_trig::cos::cos` meets its contract. Assumes nothing.
use Rattle.std.proofs.Common.{◌∙◌}
use lib.Ieee.{of_bits}
use Rattle.math_trig.specs.Laws.{cos_at, cos_outside}
use Rattle.math_trig.proofs.cos.cos.Goals as goal

pub returns-in-Some : goal.returns-in-Some
returns-in-Some c =
    let s = c.in-Some.ensures in
    c.cosine.ensures ∙ cos_at c.args.x c.in-Some.part.quadrant c.in-Some.part.rest s.inside s.quarter s.left

pub returns-in-None : goal.returns-in-None
unfolding of_bits
returns-in-None c = cos_outside c.args.x c.in-None.ensures
