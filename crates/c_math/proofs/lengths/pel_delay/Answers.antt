-- `c_math::lengths::pel_delay` meets its contract, an answer of `delay` at a time. Assumes nothing.
use mathlib.Core.Path.{sym, ap, ◌∙◌}
use lib.Ieee.{of_int, of_bits}
use Rattle.c_math.specs.Reports.{delay_report}
use Rattle.c_math.proofs.lengths.pel_delay.Goals as goal

pub returns-in-Ok : goal.returns-in-Ok
unfolding of_int of_bits
returns-in-Ok c = c.accepted.ensures ∙ ap delay_report (sym c.in-Ok.is ∙ c.delay.ensures)

pub returns-in-Err : goal.returns-in-Err
returns-in-Err c = c.from.ensures ∙ ap delay_report (sym c.in-Err.is ∙ c.delay.ensures)
