-- `fir_length::beta::kaiser_beta` meets its contract, a range at a time. Assumes nothing.
use mathlib.Core.Path.{sym}
use lib.Ieee.{of_bits, of_int, round}
use Rattle.fir_length.specs.Kaiser.{beta_of}
use Rattle.fir_length.proofs.beta.kaiser_beta.Goals as goal

pub returns-then-a : goal.returns-then-a
unfolding beta_of of_int of_bits round
returns-then-a c = sym (rw c.if-a.true)

pub returns-then-a-2 : goal.returns-then-a-2
unfolding beta_of of_int of_bits round
returns-then-a-2 c = rw c.pow04.ensures (sym (rw (c.if-a.false, c.if-a-2.true)))

pub returns-else-a-2 : goal.returns-else-a-2
unfolding beta_of of_int of_bits round
returns-else-a-2 c = sym (rw (c.if-a.false, c.if-a-2.false))
