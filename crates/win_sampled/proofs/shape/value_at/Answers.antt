-- `win_sampled::shape::value_at` meets its contract. Assumes nothing.
use Rattle.std.proofs.Common.{sym, ◌∙◌, eq-eqb, ne_eqb}
use lib.Ieee.{of_bits, of_int}
use Rattle.win_sampled.specs.SampleLaws.{value_at}
use Rattle.win_sampled.proofs.shape.value_at.Goals as goal

pub returns-then-divisor-eq0 : goal.returns-then-divisor-eq0
unfolding value_at of_int of_bits
returns-then-divisor-eq0 c = sym (rw (eq-eqb c.args.divisor 0 c.if-divisor-eq0.true))

pub returns-else-divisor-eq0 : goal.returns-else-divisor-eq0
unfolding value_at
returns-else-divisor-eq0 c = c.value_of.ensures ∙ sym (rw (ne_eqb c.args.divisor 0 c.if-divisor-eq0.false))
