-- `math_unity::Sides::no_more` meets its contract. The invariant: what is left to do answers as the whole does. Assumes
-- nothing.
use Rattle.std.proofs.Common.{◌≡◌, ◌-◌, ◌≤◌, length}
use Rattle.math_unity.specs.Digits.{run}
use Rattle.math_unity.proofs.Sides.no_more.Given as goal

abbrev pub invariant-loop : goal.invariant-loop
invariant-loop l = record {
  same : run (21 - l.counter) l.t.p l.t.n l.t.a l.t.b ≡ run 21 l.fn.self.p l.fn.self.n l.fn.self.a l.fn.self.b;
  five_p : length l.t.p ≤ 5;
  five_n : length l.t.n ≤ 5;
}
