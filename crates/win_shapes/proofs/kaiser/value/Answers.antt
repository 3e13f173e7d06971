-- `win_shapes::kaiser::value` meets its contract. Assumes nothing.
use Rattle.win_shapes.proofs.kaiser.value.Goals as goal

pub returns : goal.returns
returns c = rw c.bessel_i0-s.ensures
