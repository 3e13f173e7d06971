-- `iir_biquad::preemphasis::preemphasis_coefs` meets its contract: what each test says, and then an answer at a time.
-- Assumes nothing.
use mathlib.Core.Path.{◌≡◌, sym, ◌∙◌}
use mathlib.Core.Bool.{true}
use lib.Ieee.{of_bits, of_int, round, div}
use Rattle.iir_biquad.specs.Preemphasis.{constant_taken, rate_taken, pole_of, preemphasis_of}
use Rattle.iir_biquad.proofs.preemphasis.preemphasis_coefs.Goals as goal

pub returns-then-not-takes_constant : goal.returns-then-not-takes_constant
unfolding preemphasis_of of_int of_bits round
returns-then-not-takes_constant c = sym (rw (sym c.takes_constant.ensures ∙ c.if-not-takes_constant.true))

pub returns-then-not-takes_rate : goal.returns-then-not-takes_rate
unfolding preemphasis_of of_int of_bits div
returns-then-not-takes_rate c =
    let past1 : constant_taken c.args.tau ≡ true = sym c.takes_constant.ensures ∙ c.if-not-takes_constant.false in
    sym (rw (past1, sym c.takes_rate.ensures ∙ c.if-not-takes_rate.true))

pub returns : goal.returns
unfolding preemphasis_of pole_of of_int of_bits round
returns c =
    let past1 : constant_taken c.args.tau ≡ true = sym c.takes_constant.ensures ∙ c.if-not-takes_constant.false in
    let past2 : rate_taken c.args.rate ≡ true = sym c.takes_rate.ensures ∙ c.if-not-takes_rate.false in
    sym (rw (past1, past2))
