-- `math_bessel::Partial::rest` meets its contract. The loop's invariant: the terms so far, none before the last small.
-- Assumes nothing.
use Rattle.std.proofs.Common.{◌≡◌, ◌+◌}
use Rattle.laws.specs.Binary64.{whole}
use Rattle.math_bessel.specs.Laws.{Going}
use Rattle.math_bessel.proofs.Partial.rest.Given as goal

abbrev pub invariant-loop-n : goal.invariant-loop-n
invariant-loop-n l = record {
  going : Going l.p.half l.p.term l.p.sum l.n;
  half : l.p.half ≡ l.fn.self.half;
  number : l.d ≡ whole (l.n + 1);
}
