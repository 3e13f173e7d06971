-- `win_shapes::kaiser::values` meets its contract. Assumes nothing.
use mathlib.Core.Path.{ap}
use lib.Ieee.{Float}
use Rattle.laws.specs.Binary64.{◌⊘◌}
use Rattle.win_shapes.proofs.kaiser.values.Goals as goal

pub returns : goal.returns
returns c =
    let i0 = c.args.i0 in
    record { first = ap (λ (z : Float). z ⊘ i0) c.bessel_i0_pair-s.ensures.first; second = ap (λ (z : Float). z ⊘ i0) c.bessel_i0_pair-s.ensures.second }
