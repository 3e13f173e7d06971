-- `iir_biquad::biquad::biquad_coefs` meets its contract: what each test says, and then an answer at a time. Assumes
-- nothing.
use mathlib.Core.Path.{◌≡◌, sym, ◌∙◌}
use mathlib.Core.Bool.{true}
use lib.Ieee.{of_bits, of_int, div}
use Rattle.iir_biquad.specs.Biquad.{centre_taken, quality_taken, biquad_of}
use Rattle.iir_biquad.proofs.biquad.biquad_coefs.Goals as goal

pub returns-then-not-takes_centre : goal.returns-then-not-takes_centre
unfolding biquad_of of_int of_bits
returns-then-not-takes_centre c = sym (rw (sym c.takes_centre.ensures ∙ c.if-not-takes_centre.true))

pub returns-then-not-takes_quality : goal.returns-then-not-takes_quality
unfolding biquad_of of_int of_bits div
returns-then-not-takes_quality c =
    let past1 : centre_taken c.args.centre c.args.rate ≡ true = sym c.takes_centre.ensures ∙ c.if-not-takes_centre.false in
    sym (rw (past1, sym c.takes_quality.ensures ∙ c.if-not-takes_quality.true))

pub returns : goal.returns
unfolding biquad_of of_int of_bits
returns c =
    let past1 : centre_taken c.args.centre c.args.rate ≡ true = sym c.takes_centre.ensures ∙ c.if-not-takes_centre.false in
    let past2 : quality_taken c.args.q ≡ true = sym c.takes_quality.ensures ∙ c.if-not-takes_quality.false in
    rw (c.section.ensures, c.sin.ensures, c.cos-c.ensures) (sym (rw (past1, past2)))
