-- `win_settling::settles` meets its contract: what each test says, and then an answer at a time. Assumes nothing.
use Rattle.std.proofs.Common.{sym, ap, ◌∙◌}
use borrow.Author.Tests.{not-true, not-false}
use lib.Ieee.{of_bits, of_int}
use Rattle.laws.specs.Tests.{holds}
use Rattle.math_bessel.specs.declared.Series.{Series}
use Rattle.win_settling.specs.SettlingLaws.{settles_to_713, no_divisor, not_at_beta, at_elements}
use Rattle.win_settling.proofs.settles.Goals as goal

pub returns-then-d-eq0 : goal.returns-then-d-eq0
returns-then-d-eq0 c = let a = c.args in sym (no_divisor a.beta a.d a.n c.if-d-eq0.true)

pub returns-then-beta-2 : goal.returns-then-beta-2
unfolding of_int of_bits
returns-then-beta-2 c =
    let a = c.args in
    sym (settles_to_713 a.beta a.d a.n (holds c.if-beta.true) (holds c.if-beta-2.true))

pub returns-then-not-series : goal.returns-then-not-series
returns-then-not-series c =
    let a = c.args in
    sym (not_at_beta a.beta a.d a.n c.if-d-eq0.false (sym (ap (λ (r : Series). r.settled) c.bessel_i0-series.ensures) ∙ not-true _ c.if-not-series.true))

pub returns : goal.returns
returns c =
    let a = c.args in
    c.elements_settle.ensures ∙ sym (at_elements a.beta a.d a.n c.if-d-eq0.false (sym (ap (λ (r : Series). r.settled) c.bessel_i0-series.ensures) ∙ not-false _ c.if-not-series.false))
