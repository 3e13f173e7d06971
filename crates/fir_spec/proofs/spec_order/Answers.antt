-- `fir_spec::spec_order` meets its contract: what each test says, and then an answer at a time. Assumes nothing.
use mathlib.Core.Path.{◌≡◌, sym, ap, ◌∙◌}
use mathlib.Core.Bool.{true}
use lib.Ieee.{Float, of_bits, of_int}
use Rattle.std.specs.Prelude.{ℕ, Result, Err}
use Rattle.std.proofs.Common.{rules}
use borrow.Author.Tests.{lt-ltb, le-ltb}
use Rattle.verdict.specs.declared.Refusal.{Refusal}
use Rattle.fir_length.specs.Kaiser.{order_of}
use Rattle.fir_spec.specs.declared.DesignSpec.{DesignSpec}
use Rattle.laws.specs.Binary64.{◌⊖◌, ◌⊘◌, whole}
use Rattle.math_numbers.specs.Numbers.{positive}
use Rattle.fir_length.specs.declared.order.Order.{Order}
use Rattle.fir_spec.specs.Spec.{cutoff_taken, capped_of, spec_order_of}
use Rattle.fir_spec.proofs.spec_order.Goals as goal

-- where the tests pass, what is asked comes to its order within the cap
within : (spec : DesignSpec) (rate : Float) (cap : ℕ) → positive rate ≡ true → positive spec.transition ≡ true → cutoff_taken spec.cutoff (rate ⊘ whole 2 ⊖ spec.transition ⊘ whole 2) ≡ true → capped_of (order_of spec.attenuation spec.transition rate) cap ≡ spec_order_of spec rate cap
unfolding spec_order_of
within spec rate cap a b c = sym (rw (a, b, c))

pub returns-then-not-is_positive : goal.returns-then-not-is_positive
unfolding spec_order_of
returns-then-not-is_positive c = sym (rw (sym c.is_positive.ensures ∙ c.if-not-is_positive.true))

pub returns-then-not-is_positive-2 : goal.returns-then-not-is_positive-2
unfolding spec_order_of of_int of_bits
returns-then-not-is_positive-2 c =
    let past1 : positive c.args.rate ≡ true = sym c.is_positive.ensures ∙ c.if-not-is_positive.false in
    sym (rw (past1, sym c.is_positive-2.ensures ∙ c.if-not-is_positive-2.true))

pub returns-then-not-takes_cutoff : goal.returns-then-not-takes_cutoff
unfolding spec_order_of of_int of_bits
returns-then-not-takes_cutoff c =
    let past1 : positive c.args.rate ≡ true = sym c.is_positive.ensures ∙ c.if-not-is_positive.false in
    let past2 : positive c.args.spec.transition ≡ true = sym c.is_positive-2.ensures ∙ c.if-not-is_positive-2.false in
    let within : c.takes_cutoff.result ≡ cutoff_taken c.args.spec.cutoff (c.args.rate ⊘ whole 2 ⊖ c.args.spec.transition ⊘ whole 2) = c.takes_cutoff.ensures in
    sym (rw (past1, past2, sym within ∙ c.if-not-takes_cutoff.true))

pub returns-in_err-order : goal.returns-in_err-order
unfolding of_int of_bits
returns-in_err-order c =
    let a = c.args in
    let refused : c.from_residual.result ≡ Err c.in_err-order.field-0.0 = search rules in
    refused ∙ ap (λ (o : Result Order Refusal). capped_of o a.cap) (sym c.in_err-order.was ∙ c.kaiserord.ensures)
    ∙ within a.spec a.rate a.cap (sym c.is_positive.ensures ∙ c.if-not-is_positive.false) (sym c.is_positive-2.ensures ∙ c.if-not-is_positive-2.false) (sym c.takes_cutoff.ensures ∙ c.if-not-takes_cutoff.false)

pub returns-then-cap-order : goal.returns-then-cap-order
unfolding of_int of_bits
returns-then-cap-order c =
    let a = c.args in
    sym (rw (lt-ltb a.cap c.in_ok-order.order.taps c.if-cap-order.true))
    ∙ ap (λ (o : Result Order Refusal). capped_of o a.cap) (sym c.in_ok-order.was ∙ c.kaiserord.ensures)
    ∙ within a.spec a.rate a.cap (sym c.is_positive.ensures ∙ c.if-not-is_positive.false) (sym c.is_positive-2.ensures ∙ c.if-not-is_positive-2.false) (sym c.takes_cutoff.ensures ∙ c.if-not-takes_cutoff.false)

pub returns : goal.returns
unfolding of_int of_bits
returns c =
    let a = c.args in
    sym (rw (le-ltb a.cap c.in_ok-order.order.taps c.if-cap-order.false))
    ∙ ap (λ (o : Result Order Refusal). capped_of o a.cap) (sym c.in_ok-order.was ∙ c.kaiserord.ensures)
    ∙ within a.spec a.rate a.cap (sym c.is_positive.ensures ∙ c.if-not-is_positive.false) (sym c.is_positive-2.ensures ∙ c.if-not-is_positive-2.false) (sym c.takes_cutoff.ensures ∙ c.if-not-takes_cutoff.false)
