-- `math_unity::Sides::no_more` meets its contract. The invariant: what is left to do answers as the whole does. Assumes
-- nothing.
use Rattle.std.proofs.Common.{◌-◌, length, sym, ap, ◌∙◌, le_trans, le_of_eq}
use Rattle.math_unity.specs.Cut.{rest_of}
use Rattle.math_unity.specs.Run.{each_length}
use Rattle.math_unity.specs.UnityLaws.{ahead_no, ahead_yes, run_end, run_on}
use Rattle.math_unity.proofs.Sides.no_more.Goals as goal

pub returns-then-ahead-eq6 : goal.returns-then-ahead-eq6
returns-then-ahead-eq6 c =
    let t = c.loop.t in
    let on = c.loop.invariant in
    ahead_no (21 - c.loop.counter) t.p t.n t.a t.b t.of_p t.of_n on.five_n (sym c.ahead.ensures ∙ c.if-ahead-eq6.true) ∙ on.same

pub returns-then-ahead-eq6-2 : goal.returns-then-ahead-eq6-2
returns-then-ahead-eq6-2 c =
    let t = c.loop.t in
    let on = c.loop.invariant in
    ahead_yes (21 - c.loop.counter) t.p t.n t.a t.b t.of_p t.of_n on.five_p (sym c.ahead-in-loop.ensures ∙ c.if-ahead-eq6-2.true) ∙ on.same

pub loop-preserved : goal.loop-preserved
loop-preserved c =
    let on = c.loop.invariant in
    let e = c.turn-t.ensures in
    record {
      same = run_on c.loop.counter 21 _ _ _ _ _ _ _ _ c.loop-test.true e.of_p e.of_n e.a e.b ∙ on.same;
      five_p = le_trans (le_of_eq (ap length e.of_p ∙ each_length rest_of c.loop.t.p)) on.five_p;
      five_n = le_trans (le_of_eq (ap length e.of_n ∙ each_length rest_of c.loop.t.n)) on.five_n;
    }

pub returns : goal.returns
returns c = run_end c.loop.counter 21 _ _ _ _ c.loop-test.false ∙ c.loop.invariant.same
