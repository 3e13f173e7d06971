-- `fir_channelizer::check_edges` meets its contract: what each test says, and then an answer at a time. Assumes
-- nothing.
use Rattle.std.proofs.Common.{◌≡◌, true, sym, ◌∙◌}
use lib.Ieee.{of_bits, of_int}
use Rattle.math_numbers.specs.Numbers.{positive}
use Rattle.fir_channelizer.specs.Channelizer.{stop_taken, edges_of}
use Rattle.fir_channelizer.proofs.check_edges.Goals as goal

pub returns-then-not-is_positive : goal.returns-then-not-is_positive
unfolding edges_of
returns-then-not-is_positive c = sym (rw (sym c.is_positive.ensures ∙ c.if-not-is_positive.true))

pub returns-then-not-takes_stopband : goal.returns-then-not-takes_stopband
unfolding edges_of
returns-then-not-takes_stopband c =
    let past1 : positive c.args.passband ≡ true = sym c.is_positive.ensures ∙ c.if-not-is_positive.false in
    sym (rw (past1, sym c.takes_stopband.ensures ∙ c.if-not-takes_stopband.true))

pub returns-then-not-takes_attenuation : goal.returns-then-not-takes_attenuation
unfolding edges_of of_int of_bits
returns-then-not-takes_attenuation c =
    let past1 : positive c.args.passband ≡ true = sym c.is_positive.ensures ∙ c.if-not-is_positive.false in
    let past2 : stop_taken c.args.passband c.args.stopband ≡ true = sym c.takes_stopband.ensures ∙ c.if-not-takes_stopband.false in
    sym (rw (past1, past2, sym c.takes_attenuation.ensures ∙ c.if-not-takes_attenuation.true))

pub returns : goal.returns
unfolding edges_of
returns c =
    let past1 : positive c.args.passband ≡ true = sym c.is_positive.ensures ∙ c.if-not-is_positive.false in
    let past2 : stop_taken c.args.passband c.args.stopband ≡ true = sym c.takes_stopband.ensures ∙ c.if-not-takes_stopband.false in
    sym (rw (past1, past2, sym c.takes_attenuation.ensures ∙ c.if-not-takes_attenuation.false))
