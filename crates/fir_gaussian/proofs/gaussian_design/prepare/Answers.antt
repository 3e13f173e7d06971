-- `fir_gaussian::gaussian_design::prepare` meets its contract: what each test says, and then an answer at a time.
-- Assumes nothing.
use Rattle.std.proofs.Common.{◌≡◌, ◌+◌, ◌-◌, ◌*◌, ◌/◌, ◌^◌, ◌≤◌, true, sym, ◌∙◌, le_trans, div-le_self, arith, lit≤, le→leb}
use lib.Ieee.{of_bits, of_int, round, in_float}
use Rattle.fir_gaussian.specs.Gaussian.{exponent, bt_taken, span_taken, samples_taken, gaussian_of}
use Rattle.fir_gaussian.specs.GaussianLaws.{span_least, samples_most, product_most, ready, no_samples, no_span, no_bt, accepts}
use Rattle.fir_design.specs.DesignsLaws.{prepares_refusal}
use Rattle.fir_gaussian.proofs.gaussian_design.prepare.Goals as goal

pub returns-then-not-takes_bt : goal.returns-then-not-takes_bt
unfolding of_int of_bits round
returns-then-not-takes_bt c =
    let a = c.args in
    prepares_refusal (gaussian_of a.bt a.sps a.span) _ _ (no_bt a.bt a.sps a.span (sym c.takes_bt.ensures ∙ c.if-not-takes_bt.true))

pub returns-then-not-takes_span : goal.returns-then-not-takes_span
unfolding of_int of_bits
returns-then-not-takes_span c =
    let past1 : bt_taken c.args.bt ≡ true = sym c.takes_bt.ensures ∙ c.if-not-takes_bt.false in
    let a = c.args in
    rw c.nearest_u64_to_f64.ensures (prepares_refusal (gaussian_of a.bt a.sps a.span) _ _ (no_span a.bt a.sps a.span past1 (sym c.takes_span.ensures ∙ c.if-not-takes_span.true)))

pub nonzero_div-most : goal.nonzero_div-most
nonzero_div-most c =
    let past2 : span_taken c.args.span ≡ true = sym c.takes_span.ensures ∙ c.if-not-takes_span.false in
    let h = span_least c.args.span past2 in
    omega arith

pub returns-then-not-takes_samples : goal.returns-then-not-takes_samples
unfolding of_int of_bits
returns-then-not-takes_samples c =
    let past1 : bt_taken c.args.bt ≡ true = sym c.takes_bt.ensures ∙ c.if-not-takes_bt.false in
    let past2 : span_taken c.args.span ≡ true = sym c.takes_span.ensures ∙ c.if-not-takes_span.false in
    let a = c.args in
    rw (c.nearest_u64_to_f64-then-not-takes_samples.ensures, c.nearest_u64_to_f64-then-not-takes_samples-2.ensures) (prepares_refusal (gaussian_of a.bt a.sps a.span) _ _ (no_samples a.bt a.sps a.span past1 past2 (sym c.takes_samples.ensures ∙ c.if-not-takes_samples.true)))

pub overflow_mul-n : goal.overflow_mul-n
overflow_mul-n c =
    let few : c.args.span * c.args.sps ≤ 16777215 = let past2 : span_taken c.args.span ≡ true = sym c.takes_span.ensures ∙ c.if-not-takes_span.false in
    let past3 : samples_taken c.args.sps (16777215 / c.args.span) ≡ true = sym c.takes_samples.ensures ∙ c.if-not-takes_samples.false in
    let a = c.args in
    product_most a.span a.sps past2 past3 in
    let h = few in omega arith

pub overflow_add-n : goal.overflow_add-n
overflow_add-n c =
    let few : c.args.span * c.args.sps ≤ 16777215 = let past2 : span_taken c.args.span ≡ true = sym c.takes_span.ensures ∙ c.if-not-takes_span.false in
    let past3 : samples_taken c.args.sps (16777215 / c.args.span) ≡ true = sym c.takes_samples.ensures ∙ c.if-not-takes_samples.false in
    let a = c.args in
    product_most a.span a.sps past2 past3 in
    let h = few in omega arith

pub int_to_float-samples : goal.int_to_float-samples
unfolding in_float
int_to_float-samples c =
    let past3 : samples_taken c.args.sps (16777215 / c.args.span) ≡ true = sym c.takes_samples.ensures ∙ c.if-not-takes_samples.false in
    let a = c.args in
    le→leb a.sps (2 ^ 53) (le_trans (samples_most a.sps (16777215 / a.span) past3) (le_trans (div-le_self 16777215 a.span) (lit≤ tt)))

pub int_to_float-mid : goal.int_to_float-mid
unfolding in_float
int_to_float-mid c =
    let few : c.args.span * c.args.sps ≤ 16777215 = let past2 : span_taken c.args.span ≡ true = sym c.takes_span.ensures ∙ c.if-not-takes_span.false in
    let past3 : samples_taken c.args.sps (16777215 / c.args.span) ≡ true = sym c.takes_samples.ensures ∙ c.if-not-takes_samples.false in
    let a = c.args in
    product_most a.span a.sps past2 past3 in
    let a = c.args in
    let h = few in
    le→leb (a.span * a.sps + 1 - 1) (2 ^ 53) (omega arith)

pub total-sum-requires : goal.total-sum-requires
total-sum-requires c =
    let few : c.args.span * c.args.sps ≤ 16777215 = let past2 : span_taken c.args.span ≡ true = sym c.takes_span.ensures ∙ c.if-not-takes_span.false in
    let past3 : samples_taken c.args.sps (16777215 / c.args.span) ≡ true = sym c.takes_samples.ensures ∙ c.if-not-takes_samples.false in
    let a = c.args in
    product_most a.span a.sps past2 past3 in
    let h = few in omega arith

pub returns : goal.returns
unfolding exponent of_int of_bits
returns c =
    let past1 : bt_taken c.args.bt ≡ true = sym c.takes_bt.ensures ∙ c.if-not-takes_bt.false in
    let past2 : span_taken c.args.span ≡ true = sym c.takes_span.ensures ∙ c.if-not-takes_span.false in
    let past3 : samples_taken c.args.sps (16777215 / c.args.span) ≡ true = sym c.takes_samples.ensures ∙ c.if-not-takes_samples.false in
    let a = c.args in
    accepts a.bt a.sps (a.span * a.sps + 1) c.total-sum.result _ (gaussian_of a.bt a.sps a.span) (ready a.bt a.sps a.span past1 past2 past3) c.total-sum.ensures
