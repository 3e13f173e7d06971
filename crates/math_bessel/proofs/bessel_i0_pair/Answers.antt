-- `math_bessel::bessel_i0_pair` meets its contract. The loop's invariant: the terms so far of both, none before the
-- last small. Assumes nothing.
use Rattle.std.proofs.Common.{◌+◌, refl, sym, ap, ◌∙◌, arith}
use lib.Ieee.{binary64, of_bits, of_int, round}
use Rattle.laws.specs.Tests.{neither}
use Rattle.laws.specs.WholeSums.{add_one_whole}
use Rattle.math_bessel.specs.Series.{series_at}
use Rattle.math_bessel.specs.Laws.{start, again, at_last, half_of, sum_is}
use Rattle.math_bessel.proofs.bessel_i0_pair.Goals as goal

pub loop-k-init : goal.loop-k-init
unfolding of_int of_bits
loop-k-init c = record {
  first = rw c.new-p.ensures (start (half_of c.args.x));
  second = rw c.new-q.ensures (start (half_of c.args.y));
  half = rw c.new-p.ensures refl;
  other_half = rw c.new-q.ensures refl;
  number = refl;
}

pub loop-k-preserved : goal.loop-k-preserved
unfolding of_int of_bits round
loop-k-preserved c =
    let on = c.loop-k.invariant in
    let still = neither _ _ c.if-ends.false in
    record {
      first = rw c.next-p.ensures (again on.first on.number c.loop-k-test.true (sym c.ends.ensures ∙ still.0));
      second = rw c.next-q.ensures (again on.second on.number c.loop-k-test.true (sym c.ends-in-loop-k.ensures ∙ still.1));
      half = rw c.next-p.ensures on.half;
      other_half = rw c.next-q.ensures on.other_half;
      number = add_one_whole binary64 (c.loop-k.k + 1) (omega arith) on.number;
    }

pub returns-then-ends : goal.returns-then-ends
returns-then-ends c =
    let on = c.loop-k.invariant in
    record { first = sum_is c.args.x (c.rest.ensures ∙ ap series_at on.half); second = sum_is c.args.y (c.rest-then-ends.ensures ∙ ap series_at on.other_half) }

pub returns : goal.returns
returns c =
    let on = c.loop-k.invariant in
    let l = c.loop-k-test.false in
    record { first = sum_is c.args.x (at_last on.first l ∙ ap series_at on.half); second = sum_is c.args.y (at_last on.second l ∙ ap series_at on.other_half) }
