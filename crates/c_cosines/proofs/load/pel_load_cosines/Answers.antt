-- `c_cosines::load::pel_load_cosines` meets its contract. Assumes nothing.
use mathlib.Core.Path.{refl}
use lib.Ieee.{of_bits, of_int}
use Rattle.c_cosines.proofs.load.pel_load_cosines.Goals as goal

pub returns-in-Ok : goal.returns-in-Ok
unfolding of_bits of_int
returns-in-Ok c = rw (c.accepted.ensures, ← c.load_bytes.ensures, c.in-Ok.is) refl

pub returns-in-Err : goal.returns-in-Err
unfolding of_bits of_int
returns-in-Err c = rw (c.from.ensures, ← c.load_bytes.ensures, c.in-Err.is) refl
