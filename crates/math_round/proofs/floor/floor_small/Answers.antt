-- `math_round::floor::floor_small` meets its contract: the whole number near x, or the one under it. Assumes nothing.
use Rattle.std.proofs.Common.{T, sym, ◌∙◌, subst}
use lib.Ieee.{of_bits}
use Rattle.math_round.specs.NearPaths.{chosen_is}
use Rattle.math_round.proofs.floor.floor_small.Goals as goal

pub returns : goal.returns
unfolding of_bits
returns c = λ h. c.chosen.ensures ∙ chosen_is c.args.x (subst T (sym c.well_formed.0.1) tt) h
