-- `math_unity::Sides::turn` meets its contract. Assumes nothing.
use Rattle.math_unity.specs.UnityLaws.{rests_of, sizes_of}
use Rattle.math_unity.proofs.Sides.turn.Goals as goal

pub invariant_of-result : goal.invariant_of-result
invariant_of-result c = record {
  of_p = rests_of c.args.self.p c.cut_all-a.result.1 (sizes_of c.args.self.p c.args.self.of_p) c.cut_all-a.ensures.rests;
  of_n = rests_of c.args.self.n c.cut_all-b.result.1 (sizes_of c.args.self.n c.args.self.of_n) c.cut_all-b.ensures.rests;
}
