-- `fir_channelizer::prepare` meets its contract: what each test says, and then an answer at a time. Assumes nothing.
use Rattle.std.specs.Prelude.{Err, Ok, Result}
use Rattle.std.proofs.Common.{◌≡◌, ◌*◌, true, sym, ap, ◌∙◌, arith, rules}
use lib.Ieee.{Float, of_bits, of_int}
use Rattle.laws.specs.Binary64.{◌⊕◌, ◌⊗◌, ◌⊘◌, whole}
use Rattle.fir_lowpass.specs.Lowpass.{where_passed, lowpass_of}
use Rattle.fir_design.specs.DesignsLaws.{prepares_as, prepares_refusal}
use Rattle.fir_sinc.specs.declared.window.Window.TheVariants.{Kaiser}
use Rattle.fir_channelizer.specs.Channelizer.{channels_taken, branch_taken, edges_of, channelizer_lowpass_of}
use Rattle.fir_channelizer.specs.ChannelizerLaws.{prototype_of, product_most, by_edges, no_branch, no_channels}
use Rattle.fir_channelizer.proofs.prepare.Goals as goal
use Rattle.verdict.specs.declared.Refusal.{Refusal}

pub returns-then-not-takes_channels : goal.returns-then-not-takes_channels
returns-then-not-takes_channels c =
    let a = c.args in
    prepares_refusal _ _ _ (no_channels a.channels a.branch a.passband a.stopband a.attenuation (sym c.takes_channels.ensures ∙ c.if-not-takes_channels.true))

pub returns-then-not-takes_branch : goal.returns-then-not-takes_branch
returns-then-not-takes_branch c =
    let past1 : channels_taken c.args.channels ≡ true = sym c.takes_channels.ensures ∙ c.if-not-takes_channels.false in
    let a = c.args in
    prepares_refusal _ _ _ (no_branch a.channels a.branch a.passband a.stopband a.attenuation past1 (sym c.takes_branch.ensures ∙ c.if-not-takes_branch.true))

pub overflow_mul-channels : goal.overflow_mul-channels
overflow_mul-channels c =
    let past1 : channels_taken c.args.channels ≡ true = sym c.takes_channels.ensures ∙ c.if-not-takes_channels.false in
    let past2 : branch_taken c.args.branch ≡ true = sym c.takes_branch.ensures ∙ c.if-not-takes_branch.false in
    let a = c.args in
    let h = product_most a.channels a.branch past1 past2 in
    omega arith

pub returns : goal.returns
unfolding of_int of_bits
returns c =
    let answer : (k : Result (Unit {0}) Refusal) → edges_of c.args.passband c.args.stopband c.args.attenuation ≡ k → channelizer_lowpass_of c.args.channels c.args.branch c.args.passband c.args.stopband c.args.attenuation ≡ where_passed k (prototype_of c.args.channels c.args.branch c.args.passband c.args.stopband c.args.attenuation) = let past1 : channels_taken c.args.channels ≡ true = sym c.takes_channels.ensures ∙ c.if-not-takes_channels.false in
    let past2 : branch_taken c.args.branch ≡ true = sym c.takes_branch.ensures ∙ c.if-not-takes_branch.false in
    λ k e. let a = c.args in
    by_edges a.channels a.branch a.passband a.stopband a.attenuation past1 past2
    ∙ ap (λ (z : Result (Unit {0}) Refusal). where_passed z (prototype_of a.channels a.branch a.passband a.stopband a.attenuation)) e in
    let a = c.args in
    let n = a.channels * a.branch in
    prepares_as
    (ap (λ (z : Float). lowpass_of ((a.passband ⊕ a.stopband) ⊘ (whole 2 ⊗ z)) (whole 1) (Kaiser c.kaiser_beta-beta.result) n) c.nearest_u64_to_f64.ensures
    ∙ ap (λ (z : Float). lowpass_of ((a.passband ⊕ a.stopband) ⊘ (whole 2 ⊗ whole a.channels)) (whole 1) (Kaiser z) n) c.kaiser_beta-beta.ensures
    ∙ sym (answer (Ok tt) (sym c.check_edges.ensures ∙ c.in_ok-check_edges.was)))
    c.prepare.ensures

pub returns-in_err-check_edges : goal.returns-in_err-check_edges
returns-in_err-check_edges c =
    let answer : (k : Result (Unit {0}) Refusal) → edges_of c.args.passband c.args.stopband c.args.attenuation ≡ k → channelizer_lowpass_of c.args.channels c.args.branch c.args.passband c.args.stopband c.args.attenuation ≡ where_passed k (prototype_of c.args.channels c.args.branch c.args.passband c.args.stopband c.args.attenuation) = let past1 : channels_taken c.args.channels ≡ true = sym c.takes_channels.ensures ∙ c.if-not-takes_channels.false in
    let past2 : branch_taken c.args.branch ≡ true = sym c.takes_branch.ensures ∙ c.if-not-takes_branch.false in
    λ k e. let a = c.args in
    by_edges a.channels a.branch a.passband a.stopband a.attenuation past1 past2
    ∙ ap (λ (z : Result (Unit {0}) Refusal). where_passed z (prototype_of a.channels a.branch a.passband a.stopband a.attenuation)) e in
    let refused : c.from_residual.result ≡ Err c.in_err-check_edges.field-0.0 = search rules in
    rw refused (prepares_refusal _ _ _ (answer (Err c.in_err-check_edges.field-0.0) (sym c.check_edges.ensures ∙ c.in_err-check_edges.was)))
