-- `fir_channelizer::channelizer_taps` meets its contract: what the tests say, and then an answer at a time. Assumes
-- nothing.
use Rattle.std.specs.Prelude.{Err, Ok, Result}
use Rattle.std.proofs.Common.{◌≡◌, true, false, sym, ap, ◌∙◌, rules}
use lib.Ieee.{Float, to_unsigned, of_bits, of_int}
use Rattle.laws.specs.Binary64.{◌⊖◌, ◌⊗◌, ◌⊘◌, whole}
use Rattle.math_round.specs.Whole.{ceil_of}
use Rattle.fir_length.specs.Kaiser.{estimate}
use Rattle.fir_channelizer.specs.Channelizer.{count_taken, taps_in, channelizer_taps_of}
use Rattle.fir_channelizer.specs.ChannelizerLaws.{taps_by_edges, taps_no_channels}
use Rattle.fir_channelizer.proofs.channelizer_taps.Goals as goal
use Rattle.verdict.specs.declared.Refusal.{Refusal}

pub returns-then-not-takes_channels : goal.returns-then-not-takes_channels
returns-then-not-takes_channels c =
    let a = c.args in
    sym (taps_no_channels a.channels a.passband a.stopband a.attenuation (sym c.takes_channels.ensures ∙ c.if-not-takes_channels.true))

pub returns-then-takes_estimate : goal.returns-then-takes_estimate
unfolding of_int of_bits
returns-then-takes_estimate c =
    let number : Float = let a = c.args in
    estimate a.attenuation (whole 2 ⊗ (a.stopband ⊖ a.passband) ⊘ whole a.channels) in
    let answer : (k : Result (Unit {0}) Refusal) → c.check_edges.result ≡ k → channelizer_taps_of c.args.channels c.args.passband c.args.stopband c.args.attenuation ≡ taps_in k number = λ k e. let a = c.args in
    taps_by_edges a.channels a.passband a.stopband a.attenuation (sym c.takes_channels.ensures ∙ c.if-not-takes_channels.false)
    ∙ ap (λ (z : Result (Unit {0}) Refusal). taps_in z number) (sym c.check_edges.ensures ∙ e) in
    let estimated : c.taps_estimate-num.result ≡ number = let a = c.args in
    c.taps_estimate-num.ensures ∙ ap (λ (z : Float). estimate a.attenuation (whole 2 ⊗ (a.stopband ⊖ a.passband) ⊘ z)) c.nearest_u64_to_f64.ensures in
    let taken : count_taken number ≡ true = ap count_taken (sym estimated) ∙ sym c.takes_estimate.ensures ∙ c.if-takes_estimate.true in
    ap Ok (c.to_count.ensures ∙ ap (λ (z : Float). to_unsigned 64 z) (c.ceil.ensures ∙ ap ceil_of estimated)) ∙ sym (answer (Ok tt) c.in_ok-check_edges.was ∙ rw taken)

pub returns-else-takes_estimate : goal.returns-else-takes_estimate
unfolding of_int of_bits
returns-else-takes_estimate c =
    let number : Float = let a = c.args in
    estimate a.attenuation (whole 2 ⊗ (a.stopband ⊖ a.passband) ⊘ whole a.channels) in
    let answer : (k : Result (Unit {0}) Refusal) → c.check_edges.result ≡ k → channelizer_taps_of c.args.channels c.args.passband c.args.stopband c.args.attenuation ≡ taps_in k number = λ k e. let a = c.args in
    taps_by_edges a.channels a.passband a.stopband a.attenuation (sym c.takes_channels.ensures ∙ c.if-not-takes_channels.false)
    ∙ ap (λ (z : Result (Unit {0}) Refusal). taps_in z number) (sym c.check_edges.ensures ∙ e) in
    let estimated : c.taps_estimate-num.result ≡ number = let a = c.args in
    c.taps_estimate-num.ensures ∙ ap (λ (z : Float). estimate a.attenuation (whole 2 ⊗ (a.stopband ⊖ a.passband) ⊘ z)) c.nearest_u64_to_f64.ensures in
    let left : count_taken number ≡ false = ap count_taken (sym estimated) ∙ sym c.takes_estimate.ensures ∙ c.if-takes_estimate.false in
    sym (answer (Ok tt) c.in_ok-check_edges.was ∙ rw left)

pub returns-in_err-check_edges : goal.returns-in_err-check_edges
returns-in_err-check_edges c =
    let number : Float = let a = c.args in
    estimate a.attenuation (whole 2 ⊗ (a.stopband ⊖ a.passband) ⊘ whole a.channels) in
    let answer : (k : Result (Unit {0}) Refusal) → c.check_edges.result ≡ k → channelizer_taps_of c.args.channels c.args.passband c.args.stopband c.args.attenuation ≡ taps_in k number = λ k e. let a = c.args in
    taps_by_edges a.channels a.passband a.stopband a.attenuation (sym c.takes_channels.ensures ∙ c.if-not-takes_channels.false)
    ∙ ap (λ (z : Result (Unit {0}) Refusal). taps_in z number) (sym c.check_edges.ensures ∙ e) in
    let refused : c.from_residual.result ≡ Err c.in_err-check_edges.field-0.0 = search rules in
    rw refused (sym (answer (Err c.in_err-check_edges.field-0.0) c.in_err-check_edges.was))
