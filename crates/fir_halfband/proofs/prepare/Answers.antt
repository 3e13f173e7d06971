-- `fir_halfband::prepare` meets its contract: what each test says, and then an answer at a time. Assumes nothing.
use Rattle.std.specs.Prelude.{Err}
use Rattle.std.proofs.Common.{rules}
use mathlib.Core.Path.{◌≡◌, sym, ap, ◌∙◌}
use mathlib.Core.Bool.{true}
use lib.Ieee.{of_bits, of_int, round}
use Rattle.fir_lowpass.specs.Lowpass.{usable}
use Rattle.fir_lowpass.specs.declared.lowpass.Lowpass.{Lowpass}
use Rattle.fir_halfband.specs.Halfband.{halfband_of, length_taken, quarter_of, divisor_of}
use Rattle.fir_halfband.specs.HalfbandLaws.{ready, no_divisor, no_lowpass, no_length, accepts}
use Rattle.fir_design.specs.DesignsLaws.{prepares_refusal}
use Rattle.fir_halfband.proofs.prepare.Goals as goal

pub returns-then-not-takes_length : goal.returns-then-not-takes_length
returns-then-not-takes_length c =
    let a = c.args in
    prepares_refusal (halfband_of a.beta a.n) _ _ (no_length a.beta a.n (sym c.takes_length.ensures ∙ c.if-not-takes_length.true))

pub returns-then-not-is_usable : goal.returns-then-not-is_usable
unfolding of_int of_bits round divisor_of
returns-then-not-is_usable c =
    let past : length_taken c.args.n ≡ true = sym c.takes_length.ensures ∙ c.if-not-takes_length.false in
    let quarter : quarter_of c.args.beta c.args.n ≡ c.prepare.result = sym c.prepare.ensures.is in
    let lowpass : Lowpass = c.in_ok-lp.lp in
    let divided : c.total-sum.result ≡ divisor_of lowpass c.args.n = c.total-sum.ensures (c.prepare.ensures.raws lowpass c.in_ok-lp.was) in
    let a = c.args in
    prepares_refusal (halfband_of a.beta a.n) _ _
    (no_divisor a.beta a.n past lowpass (quarter ∙ c.in_ok-lp.was) (ap usable (sym divided) ∙ sym c.is_usable.ensures ∙ c.if-not-is_usable.true))

pub returns : goal.returns
unfolding of_int of_bits round divisor_of
returns c =
    let past : length_taken c.args.n ≡ true = sym c.takes_length.ensures ∙ c.if-not-takes_length.false in
    let quarter : quarter_of c.args.beta c.args.n ≡ c.prepare.result = sym c.prepare.ensures.is in
    let lowpass : Lowpass = c.in_ok-lp.lp in
    let divided : c.total-sum.result ≡ divisor_of lowpass c.args.n = c.total-sum.ensures (c.prepare.ensures.raws lowpass c.in_ok-lp.was) in
    let a = c.args in
    let e = c.in_ok-lp.was in
    accepts a.beta a.n lowpass c.total-sum.result _ divided (c.prepare.ensures.raws lowpass e)
    (ready a.beta a.n past lowpass (quarter ∙ e) (ap usable (sym divided) ∙ sym c.is_usable.ensures ∙ c.if-not-is_usable.false))

pub returns-in_err-lp : goal.returns-in_err-lp
unfolding of_int of_bits round
returns-in_err-lp c =
    let past : length_taken c.args.n ≡ true = sym c.takes_length.ensures ∙ c.if-not-takes_length.false in
    let quarter : quarter_of c.args.beta c.args.n ≡ c.prepare.result = sym c.prepare.ensures.is in
    let a = c.args in
    let refused : c.from_residual.result ≡ Err c.in_err-lp.field-0.0 = search rules in
    rw refused (prepares_refusal (halfband_of a.beta a.n) c.in_err-lp.field-0.0 _ (no_lowpass a.beta a.n past c.in_err-lp.field-0.0 (quarter ∙ c.in_err-lp.was)))
