-- `win_shapes::kaiser::argument` meets its contract. Assumes nothing.
use Rattle.win_shapes.proofs.kaiser.argument.Goals as goal

pub returns : goal.returns
returns c = rw c.sqrt.ensures
