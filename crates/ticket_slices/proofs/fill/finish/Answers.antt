-- `ticket_slices::fill::finish` meets its contract. The loop's invariant: the taps so far stand at the front. Assumes
-- nothing.
use Rattle.std.specs.Prelude.{Err}
use Rattle.std.proofs.Common.{◌≡◌, ap, ◌∙◌, length, arith, rules}
use Rattle.laws.specs.Filled.{fill_none, fill_more, fill_all, length_filled}
use Rattle.verdict.specs.OutcomeLaws.{fills, leaves}
use Rattle.fir_design.specs.Designs.{outcome_of}
use Rattle.ticket_slices.proofs.fill.finish.Goals as goal

pub loop-i-init : goal.loop-i-init
loop-i-init g c = (omega arith, fill_none _ _)

pub bounds-taps-i : goal.bounds-taps-i
bounds-taps-i g c =
    let e : length c.loop-i.taps ≡ length c.args.taps.now = ap length c.loop-i.invariant.1 ∙ length_filled _ _ _ (omega arith) in
    omega arith

pub loop-i-preserved : goal.loop-i-preserved
loop-i-preserved g c = (omega arith, cc (fill_more c.loop-i.i (g.D.Design.tap c.in_ok-design.design) c.args.taps.now (omega arith)))

pub shape_of-taps : goal.shape_of-taps
shape_of-taps g c = ap length c.loop-i.invariant.1 ∙ length_filled _ _ _ (omega arith)

pub returns : goal.returns
returns g c =
    let kind = g.D.Design in
    let e : c.loop-i.i ≡ length c.args.taps.now = omega arith in
    let k = fill_all c.loop-i.i (kind.tap c.in_ok-design.design) c.args.taps.now (omega arith) in
    fills {after = c.loop-i.taps} (ap (outcome_of kind.count kind.divisor kind.tap) c.in_ok-design.was) cc

pub returns-in_err-design : goal.returns-in_err-design
returns-in_err-design g c =
    let kind = g.D.Design in
    let refused : c.from_residual.result ≡ Err c.in_err-design.field-0.0 = search rules in
    rw refused (leaves c.in_err-design.field-0.0 (ap (outcome_of kind.count kind.divisor kind.tap) c.in_err-design.was))
