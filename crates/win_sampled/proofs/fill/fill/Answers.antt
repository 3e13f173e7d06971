-- `win_sampled::fill::fill` meets its contract, by FillLaws. Assumes nothing.
use Rattle.std.specs.Prelude.{Err}
use Rattle.std.proofs.Common.{ap, ◌∙◌, arith, rules, ◌≡◌}
use Rattle.win_sampled.proofs.FillLaws.{fill_start, same_size, fill_next, fill_done, fill_refused}
use Rattle.win_sampled.proofs.fill.fill.Goals as goal

pub loop-i-init : goal.loop-i-init
loop-i-init g c = fill_start

pub bounds-out-i : goal.bounds-out-i
bounds-out-i g c = omega (arith, same_size c.loop-i.invariant)

pub loop-i-preserved : goal.loop-i-preserved
loop-i-preserved g c = fill_next c.loop-i.invariant (omega arith) (c.of.ensures ∙ ap g.S.Sample.of c.sample_at.ensures)

pub shape_of-out : goal.shape_of-out
shape_of-out g c = same_size c.loop-i.invariant

pub returns : goal.returns
returns g c = fill_done c.loop-i.invariant c.judge.ensures c.in_ok-judge.was c.norm-i0.ensures c.divisor-d.ensures (omega arith)

pub returns-in_err-judge : goal.returns-in_err-judge
returns-in_err-judge g c =
    let refused : c.from_residual.result ≡ Err c.in_err-judge.field-0.0 = search rules in
    rw refused (fill_refused c.judge.ensures c.in_err-judge.was)
