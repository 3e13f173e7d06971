-- `fir_sinc::tap::sinc_at` meets its contract. Assumes nothing.
use mathlib.Core.Path.{sym}
use lib.Ieee.{of_bits, of_int}
use Rattle.fir_sinc.specs.Taps.{sinc}
use Rattle.fir_sinc.proofs.tap.sinc_at.Goals as goal

pub returns-then-x : goal.returns-then-x
unfolding sinc of_int of_bits
returns-then-x c = sym (rw c.if-x.true)

pub returns-else-x : goal.returns-else-x
unfolding sinc of_int of_bits
returns-else-x c = rw c.sin.ensures (sym (rw c.if-x.false))
