-- `fir_spec::spec_prepare` meets its contract. Assumes nothing.
use Rattle.std.specs.Prelude.{Err}
use Rattle.std.proofs.Common.{◌≡◌, sym, ap, ◌∙◌, rules}
use borrow.Author.Tests.{eq-eqb, ne_eqb}
use Rattle.fir_design.specs.DesignsLaws.{prepares_as, prepares_refusal}
use Rattle.fir_spec.specs.Spec.{design_in, spec_design_of}
use Rattle.fir_spec.proofs.spec_prepare.Goals as goal

pub returns-in_err-order : goal.returns-in_err-order
unfolding spec_design_of
returns-in_err-order c =
    let a = c.args in
    let refused : c.from_residual.result ≡ Err c.in_err-order.field-0.0 = search rules in
    rw refused (prepares_refusal _ _ _ (ap (design_in a.spec a.rate a.len) (sym c.spec_order.ensures ∙ c.in_err-order.was)))

pub returns-then-n-len : goal.returns-then-n-len
unfolding spec_design_of
returns-then-n-len c =
    let a = c.args in
    let o = c.in_ok-order.order in
    prepares_refusal _ _ _ (ap (design_in a.spec a.rate a.len) (sym c.spec_order.ensures ∙ c.in_ok-order.was) ∙ rw (ne_eqb o.taps a.len c.if-n-len.true))

pub returns : goal.returns
unfolding spec_design_of
returns c =
    let a = c.args in
    let o = c.in_ok-order.order in
    prepares_as (sym (ap (design_in a.spec a.rate a.len) (sym c.spec_order.ensures ∙ c.in_ok-order.was) ∙ rw (eq-eqb o.taps a.len c.if-n-len.false))) c.prepare.ensures
