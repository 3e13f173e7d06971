-- `fir_sinc::window::value_at` meets its contract. Assumes nothing.
use mathlib.Core.Path.{sym, ◌∙◌}
use borrow.Author.Tests.{eq-eqb, ne_eqb}
use lib.Ieee.{of_bits, of_int}
use Rattle.fir_sinc.specs.StepLaws.{value_at}
use Rattle.fir_sinc.proofs.window.value_at.Goals as goal

pub returns-then-n-eq1 : goal.returns-then-n-eq1
unfolding value_at of_int of_bits
returns-then-n-eq1 c = sym (rw (eq-eqb c.args.n 1 c.if-n-eq1.true))

pub returns-else-n-eq1 : goal.returns-else-n-eq1
unfolding value_at
returns-else-n-eq1 c = c.value_of.ensures ∙ sym (rw (ne_eqb c.args.n 1 c.if-n-eq1.false))
