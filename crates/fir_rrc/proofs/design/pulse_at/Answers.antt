-- `fir_rrc::design::pulse_at` meets its contract. Assumes nothing.
use Rattle.std.proofs.Common.{Bool, sym, ap, ◌∙◌}
use lib.Ieee.{Float, of_bits, of_int, round, lt}
use Rattle.laws.specs.Binary64.{fraction}
use Rattle.fir_rrc.specs.Rrc.{pulse_at}
use Rattle.fir_rrc.proofs.design.pulse_at.Goals as goal

-- how the second test reads the size
abbrev small : Float → Bool
small z = lt z (fraction 1 1000000000)

pub returns-then-t : goal.returns-then-t
unfolding pulse_at of_int of_bits
returns-then-t c = c.peak_of.ensures ∙ sym (rw c.if-t.true)

pub returns-then-fabs : goal.returns-then-fabs
unfolding pulse_at of_int of_bits round
returns-then-fabs c = c.corner_of.ensures ∙ sym (rw (c.if-t.false, ap small (sym c.fabs.ensures) ∙ c.if-fabs.true))

pub returns : goal.returns
unfolding pulse_at of_int of_bits round
returns c = c.slope_of.ensures ∙ sym (rw (c.if-t.false, ap small (sym c.fabs.ensures) ∙ c.if-fabs.false))
