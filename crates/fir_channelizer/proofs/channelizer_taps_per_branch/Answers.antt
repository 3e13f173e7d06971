-- `fir_channelizer::channelizer_taps_per_branch` meets its contract. Assumes nothing.
use Rattle.std.specs.Prelude.{Ok, Err}
use Rattle.std.proofs.Common.{◌≤◌, sym, ap, ◌∙◌, arith, rules, ◌≡◌}
use Rattle.fir_channelizer.specs.Channelizer.{branch_of}
use Rattle.fir_channelizer.specs.ChannelizerLaws.{channels_are, taps_channels, upward_exact, upward_more, quotient_most}
use Rattle.fir_channelizer.proofs.channelizer_taps_per_branch.Goals as goal

pub nonzero_rem-n : goal.nonzero_rem-n
nonzero_rem-n c =
    let some : 4 ≤ c.args.channels = let a = c.args in
    (channels_are a.channels (taps_channels a.channels a.passband a.stopband a.attenuation c.in_ok-n.n (sym c.channelizer_taps.ensures ∙ c.in_ok-n.was))).least in
    let h = some in omega arith

pub nonzero_div-result : goal.nonzero_div-result
nonzero_div-result c =
    let some : 4 ≤ c.args.channels = let a = c.args in
    (channels_are a.channels (taps_channels a.channels a.passband a.stopband a.attenuation c.in_ok-n.n (sym c.channelizer_taps.ensures ∙ c.in_ok-n.was))).least in
    let h = some in omega arith

pub nonzero_div-result-else-n-channels-eq0 : goal.nonzero_div-result-else-n-channels-eq0
nonzero_div-result-else-n-channels-eq0 c =
    let some : 4 ≤ c.args.channels = let a = c.args in
    (channels_are a.channels (taps_channels a.channels a.passband a.stopband a.attenuation c.in_ok-n.n (sym c.channelizer_taps.ensures ∙ c.in_ok-n.was))).least in
    let h = some in omega arith

pub overflow_add-result : goal.overflow_add-result
overflow_add-result c =
    let some : 4 ≤ c.args.channels = let a = c.args in
    (channels_are a.channels (taps_channels a.channels a.passband a.stopband a.attenuation c.in_ok-n.n (sym c.channelizer_taps.ensures ∙ c.in_ok-n.was))).least in
    let q = quotient_most c.in_ok-n.n c.args.channels some in
    omega arith

pub returns-then-n-channels-eq0 : goal.returns-then-n-channels-eq0
returns-then-n-channels-eq0 c =
    let some : 4 ≤ c.args.channels = let a = c.args in
    (channels_are a.channels (taps_channels a.channels a.passband a.stopband a.attenuation c.in_ok-n.n (sym c.channelizer_taps.ensures ∙ c.in_ok-n.was))).least in
    let m = c.args.channels in
    sym (ap (branch_of m) (sym c.channelizer_taps.ensures ∙ c.in_ok-n.was) ∙ ap Ok (upward_exact c.in_ok-n.n m some c.if-n-channels-eq0.true))

pub returns-else-n-channels-eq0 : goal.returns-else-n-channels-eq0
returns-else-n-channels-eq0 c =
    let some : 4 ≤ c.args.channels = let a = c.args in
    (channels_are a.channels (taps_channels a.channels a.passband a.stopband a.attenuation c.in_ok-n.n (sym c.channelizer_taps.ensures ∙ c.in_ok-n.was))).least in
    let m = c.args.channels in
    sym (ap (branch_of m) (sym c.channelizer_taps.ensures ∙ c.in_ok-n.was) ∙ ap Ok (upward_more c.in_ok-n.n m some c.if-n-channels-eq0.false))

pub returns-in_err-n : goal.returns-in_err-n
returns-in_err-n c =
    let refused : c.from_residual.result ≡ Err c.in_err-n.field-0.0 = search rules in
    rw refused (sym (ap (branch_of c.args.channels) (sym c.channelizer_taps.ensures ∙ c.in_err-n.was)))
