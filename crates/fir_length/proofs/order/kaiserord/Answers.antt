-- `fir_length::order::kaiserord` meets its contract: what each test says, and then an answer at a time. Assumes
-- nothing.
use mathlib.Core.Path.{◌≡◌, sym, ap, ◌∙◌}
use mathlib.Core.Bool.{true, false}
use lib.Ieee.{Float, of_bits, of_int, lt}
use lib.Ieee.Scale.{finite}
use Rattle.laws.specs.Binary64.{◌⊗◌, ◌⊘◌, whole}
use Rattle.math_numbers.specs.Numbers.{positive}
use Rattle.math_round.specs.Whole.{abs_of}
use Rattle.fir_length.specs.Kaiser.{estimate, order_of}
use Rattle.fir_length.proofs.order.kaiserord.Goals as goal

pub returns-then-not-is_finite : goal.returns-then-not-is_finite
unfolding order_of
returns-then-not-is_finite c =
    let size : c.fabs-a.result ≡ abs_of c.args.ripple = c.fabs-a.ensures in
    let is_finite : c.is_finite.result ≡ finite (abs_of c.args.ripple) = c.is_finite.ensures ∙ ap finite size in
    sym (rw (sym is_finite ∙ c.if-not-is_finite.true))

pub returns-then-a : goal.returns-then-a
unfolding order_of of_int of_bits
returns-then-a c =
    let size : c.fabs-a.result ≡ abs_of c.args.ripple = c.fabs-a.ensures in
    let is_finite : c.is_finite.result ≡ finite (abs_of c.args.ripple) = c.is_finite.ensures ∙ ap finite size in
    let past1 : finite (abs_of c.args.ripple) ≡ true = sym is_finite ∙ c.if-not-is_finite.false in
    let small : lt (abs_of c.args.ripple) (whole 8) ≡ true = ap (λ (a : Float). lt a (whole 8)) (sym size) ∙ c.if-a.true in
    sym (rw (past1, small))

pub returns-then-not-is_positive : goal.returns-then-not-is_positive
unfolding order_of of_int of_bits
returns-then-not-is_positive c =
    let wide : c.is_positive.result ≡ positive (whole 2 ⊗ c.args.transition ⊘ c.args.rate) = c.is_positive.ensures in
    let size : c.fabs-a.result ≡ abs_of c.args.ripple = c.fabs-a.ensures in
    let is_finite : c.is_finite.result ≡ finite (abs_of c.args.ripple) = c.is_finite.ensures ∙ ap finite size in
    let past1 : finite (abs_of c.args.ripple) ≡ true = sym is_finite ∙ c.if-not-is_finite.false in
    let past2 : lt (abs_of c.args.ripple) (whole 8) ≡ false = ap (λ (a : Float). lt a (whole 8)) (sym size) ∙ c.if-a.false in
    sym (rw (past1, past2, sym wide ∙ c.if-not-is_positive.true))

pub returns-then-num : goal.returns-then-num
unfolding order_of of_int of_bits
returns-then-num c =
    let size : c.fabs-a.result ≡ abs_of c.args.ripple = c.fabs-a.ensures in
    let estimated : c.taps_estimate-num.result ≡ estimate (abs_of c.args.ripple) (whole 2 ⊗ c.args.transition ⊘ c.args.rate) = let at = c.args in
    c.taps_estimate-num.ensures ∙ ap (λ (a : Float). estimate a (whole 2 ⊗ at.transition ⊘ at.rate)) size in
    let is_finite : c.is_finite.result ≡ finite (abs_of c.args.ripple) = c.is_finite.ensures ∙ ap finite size in
    let past1 : finite (abs_of c.args.ripple) ≡ true = sym is_finite ∙ c.if-not-is_finite.false in
    let past2 : lt (abs_of c.args.ripple) (whole 8) ≡ false = ap (λ (a : Float). lt a (whole 8)) (sym size) ∙ c.if-a.false in
    let wide : c.is_positive.result ≡ positive (whole 2 ⊗ c.args.transition ⊘ c.args.rate) = c.is_positive.ensures in
    let past3 : positive (whole 2 ⊗ c.args.transition ⊘ c.args.rate) ≡ true = sym wide ∙ c.if-not-is_positive.false in
    sym (rw (past1, past2, past3, ap (λ (z : Float). lt (whole 16777216) z) (sym estimated) ∙ c.if-num.true))

pub returns : goal.returns
unfolding order_of of_int of_bits
returns c =
    let size : c.fabs-a.result ≡ abs_of c.args.ripple = c.fabs-a.ensures in
    let estimated : c.taps_estimate-num.result ≡ estimate (abs_of c.args.ripple) (whole 2 ⊗ c.args.transition ⊘ c.args.rate) = let at = c.args in
    c.taps_estimate-num.ensures ∙ ap (λ (a : Float). estimate a (whole 2 ⊗ at.transition ⊘ at.rate)) size in
    let is_finite : c.is_finite.result ≡ finite (abs_of c.args.ripple) = c.is_finite.ensures ∙ ap finite size in
    let past1 : finite (abs_of c.args.ripple) ≡ true = sym is_finite ∙ c.if-not-is_finite.false in
    let past2 : lt (abs_of c.args.ripple) (whole 8) ≡ false = ap (λ (a : Float). lt a (whole 8)) (sym size) ∙ c.if-a.false in
    let wide : c.is_positive.result ≡ positive (whole 2 ⊗ c.args.transition ⊘ c.args.rate) = c.is_positive.ensures in
    let past3 : positive (whole 2 ⊗ c.args.transition ⊘ c.args.rate) ≡ true = sym wide ∙ c.if-not-is_positive.false in
    rw (c.odd_taps.ensures, c.kaiser_beta.ensures, estimated, size)
    (sym (rw (past1, past2, past3, ap (λ (z : Float). lt (whole 16777216) z) (sym estimated) ∙ c.if-num.false)))
