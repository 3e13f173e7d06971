-- `math_bessel::bessel_i0_pair` meets its contract. The loop's invariant: the terms so far of both, none before the
-- last small. Assumes nothing.
use Rattle.std.proofs.Common.{◌≡◌, ◌+◌}
use Rattle.laws.specs.Binary64.{whole}
use Rattle.math_bessel.specs.Laws.{Going, half_of}
use Rattle.math_bessel.proofs.bessel_i0_pair.Given as goal

abbrev pub invariant-loop-k : goal.invariant-loop-k
invariant-loop-k l = record {
  first : Going l.p.half l.p.term l.p.sum l.k;
  second : Going l.q.half l.q.term l.q.sum l.k;
  half : l.p.half ≡ half_of l.fn.x;
  other_half : l.q.half ≡ half_of l.fn.y;
  number : l.d ≡ whole (l.k + 1);
}
