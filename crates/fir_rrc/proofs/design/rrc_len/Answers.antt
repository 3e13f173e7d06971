-- `fir_rrc::design::rrc_len` meets its contract. Assumes nothing.
use Rattle.std.proofs.Common.{◌≡◌, ◌*◌, ◌≤◌, true, sym, ◌∙◌, arith}
use lib.Ieee.{of_bits, of_int}
use Rattle.fir_rrc.specs.Rrc.{sampled, spanned}
use Rattle.fir_rrc.specs.RrcLaws.{product_most, so_many, no_span, no_samples}
use Rattle.fir_rrc.proofs.design.rrc_len.Goals as goal

pub returns-then-not-takes_samples : goal.returns-then-not-takes_samples
unfolding of_int of_bits
returns-then-not-takes_samples c =
    let a = c.args in
    rw c.nearest_u64_to_f64.ensures (sym (no_samples a.sps a.span (sym c.takes_samples.ensures ∙ c.if-not-takes_samples.true)))

pub returns-then-not-takes_span : goal.returns-then-not-takes_span
unfolding of_int of_bits
returns-then-not-takes_span c =
    let past1 : sampled c.args.sps ≡ true = sym c.takes_samples.ensures ∙ c.if-not-takes_samples.false in
    let a = c.args in
    rw c.nearest_u64_to_f64-then-not-takes_span.ensures (sym (no_span a.sps a.span past1 (sym c.takes_span.ensures ∙ c.if-not-takes_span.true)))

pub overflow_mul-result : goal.overflow_mul-result
overflow_mul-result c =
    let few : c.args.span * c.args.sps ≤ 32768 = let past1 : sampled c.args.sps ≡ true = sym c.takes_samples.ensures ∙ c.if-not-takes_samples.false in
    let past2 : spanned c.args.span ≡ true = sym c.takes_span.ensures ∙ c.if-not-takes_span.false in
    let a = c.args in
    product_most a.sps a.span past1 past2 in
    let h = few in omega arith

pub overflow_add-result : goal.overflow_add-result
overflow_add-result c =
    let few : c.args.span * c.args.sps ≤ 32768 = let past1 : sampled c.args.sps ≡ true = sym c.takes_samples.ensures ∙ c.if-not-takes_samples.false in
    let past2 : spanned c.args.span ≡ true = sym c.takes_span.ensures ∙ c.if-not-takes_span.false in
    let a = c.args in
    product_most a.sps a.span past1 past2 in
    let h = few in omega arith

pub returns : goal.returns
returns c =
    let past1 : sampled c.args.sps ≡ true = sym c.takes_samples.ensures ∙ c.if-not-takes_samples.false in
    let past2 : spanned c.args.span ≡ true = sym c.takes_span.ensures ∙ c.if-not-takes_span.false in
    let a = c.args in
    sym (so_many a.sps a.span past1 past2)
