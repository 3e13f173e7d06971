-- `fir_spec::takes_cutoff` meets its contract. Assumes nothing.
use mathlib.Core.Path.{sym, ◌∙◌}
use lib.Ieee.{of_bits, of_int}
use Rattle.fir_spec.specs.Spec.{cutoff_taken}
use Rattle.fir_spec.proofs.takes_cutoff.Goals as goal

pub returns-then-cutoff : goal.returns-then-cutoff
unfolding cutoff_taken of_int of_bits
returns-then-cutoff c = sym (rw c.if-cutoff.true)

pub returns-else-cutoff : goal.returns-else-cutoff
unfolding cutoff_taken of_int of_bits
returns-else-cutoff c = c.if-cutoff.false ∙ sym (rw c.if-cutoff.false)
