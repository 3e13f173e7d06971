-- `win_cosines::load` meets its contract. Assumes nothing.
use Rattle.std.proofs.Common.{refl}
use Rattle.win_cosines.proofs.load.Goals as goal

pub returns : goal.returns
returns c = c.loaded.ensures c.args.numbers.now refl (rw (c.number_at.ensures, c.number_at-2.ensures, c.number_at-3.ensures, c.number_at-4.ensures, c.number_at-5.ensures) refl)
