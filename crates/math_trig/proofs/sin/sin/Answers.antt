-- `math_trig::sin::sin` meets its contract. Assumes nothing.
use Rattle.std.proofs.Common.{◌∙◌}
use lib.Ieee.{of_bits}
use Rattle.math_trig.specs.Laws.{sin_at, sin_outside}
use Rattle.math_trig.proofs.sin.sin.Goals as goal

pub returns-in-Some : goal.returns-in-Some
returns-in-Some c =
    let s = c.in-Some.ensures in
    c.sine.ensures ∙ sin_at c.args.x c.in-Some.part.quadrant c.in-Some.part.rest s.inside s.quarter s.left

pub returns-in-None : goal.returns-in-None
unfolding of_bits
returns-in-None c = sin_outside c.args.x c.in-None.ensures
