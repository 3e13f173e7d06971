-- `math_bessel::Partial::rest` meets its contract. The loop's invariant: the terms so far, none before the last small.
-- Assumes nothing.
use Rattle.std.proofs.Common.{◌+◌, sym, ap, ◌∙◌, arith}
use lib.Ieee.{binary64, of_bits, of_int, round}
use Rattle.laws.specs.WholeSums.{add_one_whole}
use Rattle.math_bessel.specs.Series.{series_at}
use Rattle.math_bessel.specs.Laws.{at_last, at_small, again}
use Rattle.math_bessel.proofs.Partial.rest.Goals as goal

pub returns-then-ends : goal.returns-then-ends
returns-then-ends c =
    let on = c.loop-n.invariant in
    c.stopped.ensures ∙ at_small on.going (sym c.ends.ensures ∙ c.if-ends.true) ∙ ap series_at on.half

pub loop-n-preserved : goal.loop-n-preserved
unfolding of_int of_bits round
loop-n-preserved c =
    let on = c.loop-n.invariant in
    record {
      going = rw c.next-p.ensures (again on.going on.number c.loop-n-test.true (sym c.ends.ensures ∙ c.if-ends.false));
      half = rw c.next-p.ensures on.half;
      number = add_one_whole binary64 (c.loop-n.n + 1) (omega arith) on.number;
    }

pub returns : goal.returns
returns c =
    let on = c.loop-n.invariant in
    c.stopped-2.ensures ∙ at_last on.going c.loop-n-test.false ∙ ap series_at on.half
