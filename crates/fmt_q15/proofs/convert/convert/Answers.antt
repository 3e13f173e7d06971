-- `fmt_q15::convert::convert` meets its contract. The loop's invariant: the elements so far are taken, and their numbers
-- stand at the front. Assumes nothing.
use Rattle.std.specs.Prelude.{Err}
use Rattle.std.proofs.Common.{rules}
use mathlib.Core.Path.{◌≡◌, sym, ap, ◌∙◌}
use native.Mathlib.Nat.{mod-one}
use native.Mathlib.Omega.{arith}
use mir.Syntax.{w16}
use mir.Val.{to_z, of_z}
use lib.IntN.{ℤ}
use lib.ListN.{set}
use Rattle.verdict.specs.ConvertsLaws.{other_count, same_count, stopped, all_taken, at_first, lengths_refused, same_size, one_more, ends}
use Rattle.fmt_q15.specs.Q15Laws.{number_tells, refusal_tells}
use Rattle.fmt_q15.proofs.convert.convert.Goals as goal

pub returns-then-n-dst : goal.returns-then-n-dst
returns-then-n-dst g c = lengths_refused (other_count 1 _ _ (mod-one _) c.if-n-dst.true)

pub loop-i-init : goal.loop-i-init
loop-i-init g c = (omega arith, at_first g.T.Coded.takes g.T.Coded.item _ _)

pub bounds-dst-i : goal.bounds-dst-i
bounds-dst-i g c = omega (arith, same_size c.loop-i.invariant.1 (omega arith))

pub returns-in_err-dst : goal.returns-in_err-dst
returns-in_err-dst g c =
    let refused : c.from_residual.result ≡ Err c.in_err-dst.field-0.0 = search rules in
    let t = refusal_tells _ _ _ _ (sym c.coded.ensures ∙ c.in_err-dst.was) in
    rw refused (ends c.loop-i.invariant.1 (same_count 1 _ _ (mod-one _) (omega arith)) (stopped c.loop-i.invariant.1.taken (omega arith) t.0 t.1))

pub loop-i-preserved : goal.loop-i-preserved
loop-i-preserved g c =
    let q = c.in_ok-dst.field-0 in
    let stored : to_z w16 (of_z w16 q) ≡ q = search rules in
    let t = number_tells _ _ _ _ (sym c.coded.ensures ∙ c.in_ok-dst.was) in
    (omega arith, one_more c.loop-i.invariant.1 (omega arith) (omega arith) t.0 (ap (λ (z : ℤ). set c.loop-i.dst c.loop-i.i z) (stored ∙ sym t.1)))

pub shape_of-dst : goal.shape_of-dst
shape_of-dst g c = same_size c.loop-i.invariant.1 (omega arith)

pub returns : goal.returns
returns g c = ends c.loop-i.invariant.1 (same_count 1 _ _ (mod-one _) (omega arith)) (all_taken c.loop-i.invariant.1.taken (omega arith))
