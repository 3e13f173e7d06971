-- `win_sampled::shape::values_at` meets its contract. Assumes nothing.
use Rattle.std.proofs.Common.{sym, ◌∙◌, eq-eqb, ne_eqb}
use lib.Ieee.{of_bits, of_int}
use Rattle.win_sampled.specs.SampleLaws.{value_at}
use Rattle.win_sampled.proofs.shape.values_at.Goals as goal

pub returns-then-divisor-eq0 : goal.returns-then-divisor-eq0
unfolding value_at of_int of_bits
returns-then-divisor-eq0 c =
    let e = eq-eqb c.args.divisor 0 c.if-divisor-eq0.true in
    record { first = sym (rw e); second = sym (rw e) }

pub returns-else-divisor-eq0 : goal.returns-else-divisor-eq0
unfolding value_at
returns-else-divisor-eq0 c =
    let e = ne_eqb c.args.divisor 0 c.if-divisor-eq0.false in
    record { first = c.values_of.ensures.first ∙ sym (rw e); second = c.values_of.ensures.second ∙ sym (rw e) }
