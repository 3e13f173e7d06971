-- `iir_butterworth::judge` meets its contract: what each test says, and then an answer at a time. Assumes nothing.
use Rattle.std.specs.Prelude.{Err}
use mathlib.Core.Path.{◌≡◌, sym, ap, ◌∙◌}
use mathlib.Core.Bool.{true}
use Prim.Native.Nat.{ℕ, ◌*◌}
use native.Mathlib.Omega.{arith}
use borrow.Author.Tests.{eq-eqb, ne_eqb}
use lib.Ieee.{of_bits, of_int}
use Rattle.verdict.specs.Outcome.{answered}
use Rattle.verdict.specs.declared.Refusal.TheVariants.{Length}
use Rattle.iir_butterworth.specs.Butterworth.{response_taken, order_taken, sections_of}
use Rattle.iir_butterworth.specs.SectionLaws.{order_is, no_response, no_order, no_length, no_centre, made}
use Rattle.iir_butterworth.proofs.judge.Goals as goal

pub returns-then-not-takes_response : goal.returns-then-not-takes_response
returns-then-not-takes_response c =
    let a = c.args in
    sym (ap answered (no_response a.response a.order a.cutoff a.rate a.len (sym c.takes_response.ensures ∙ c.if-not-takes_response.true)))

pub returns-then-not-takes_order : goal.returns-then-not-takes_order
returns-then-not-takes_order c =
    let past1 : response_taken c.args.response ≡ true = sym c.takes_response.ensures ∙ c.if-not-takes_response.false in
    let a = c.args in
    sym (ap answered (no_order a.response a.order a.cutoff a.rate a.len past1 (sym c.takes_order.ensures ∙ c.if-not-takes_order.true)))

pub overflow_mul-expected : goal.overflow_mul-expected
overflow_mul-expected c =
    let past2 : order_taken c.args.order ≡ true = sym c.takes_order.ensures ∙ c.if-not-takes_order.false in
    let o = order_is _ past2 in
    omega arith

pub returns-then-len-expected : goal.returns-then-len-expected
returns-then-len-expected c =
    let past1 : response_taken c.args.response ≡ true = sym c.takes_response.ensures ∙ c.if-not-takes_response.false in
    let past2 : order_taken c.args.order ≡ true = sym c.takes_order.ensures ∙ c.if-not-takes_order.false in
    let expected : c.sections-expected.result * 5 ≡ sections_of c.args.order * 5 = ap (λ (n : ℕ). n * 5) c.sections-expected.ensures in
    let a = c.args in
    ap (λ (n : ℕ). Err (Length n a.len)) expected
    ∙ sym (ap answered (no_length a.response a.order a.cutoff a.rate a.len past1 past2 (ne_eqb a.len (sections_of a.order * 5) (λ e. c.if-len-expected.true (e ∙ sym expected)))))

pub returns-then-not-takes_centre : goal.returns-then-not-takes_centre
unfolding of_int of_bits
returns-then-not-takes_centre c =
    let past1 : response_taken c.args.response ≡ true = sym c.takes_response.ensures ∙ c.if-not-takes_response.false in
    let past2 : order_taken c.args.order ≡ true = sym c.takes_order.ensures ∙ c.if-not-takes_order.false in
    let expected : c.sections-expected.result * 5 ≡ sections_of c.args.order * 5 = ap (λ (n : ℕ). n * 5) c.sections-expected.ensures in
    let a = c.args in
    sym (ap answered (no_centre a.response a.order a.cutoff a.rate a.len past1 past2 (eq-eqb a.len (sections_of a.order * 5) (c.if-len-expected.false ∙ expected)) (sym c.takes_centre.ensures ∙ c.if-not-takes_centre.true)))

pub returns : goal.returns
returns c =
    let past1 : response_taken c.args.response ≡ true = sym c.takes_response.ensures ∙ c.if-not-takes_response.false in
    let past2 : order_taken c.args.order ≡ true = sym c.takes_order.ensures ∙ c.if-not-takes_order.false in
    let expected : c.sections-expected.result * 5 ≡ sections_of c.args.order * 5 = ap (λ (n : ℕ). n * 5) c.sections-expected.ensures in
    let a = c.args in
    sym (ap answered (made a.response a.order a.cutoff a.rate a.len past1 past2 (eq-eqb a.len (sections_of a.order * 5) (c.if-len-expected.false ∙ expected)) (sym c.takes_centre.ensures ∙ c.if-not-takes_centre.false)))
