-- `win_shapes::kaiser::arguments` meets its contract. Assumes nothing.
use mathlib.Core.Path.{ap}
use lib.Ieee.{Float}
use Rattle.laws.specs.Binary64.{◌⊗◌}
use Rattle.win_shapes.proofs.kaiser.arguments.Goals as goal

pub returns : goal.returns
returns c =
    let beta = c.args.beta in
    record { first = ap (λ (z : Float). beta ⊗ z) c.sqrt_pair-roots.ensures.first; second = ap (λ (z : Float). beta ⊗ z) c.sqrt_pair-roots.ensures.second }
