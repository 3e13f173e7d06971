-- `c_math::lengths::pel_kaiserord` meets its contract, an answer of `kaiserord` at a time. Assumes nothing.
use mathlib.Core.Path.{sym, ap, ◌∙◌}
use Rattle.c_math.specs.Reports.{order_report}
use Rattle.c_math.proofs.lengths.pel_kaiserord.Goals as goal

pub returns-in-Ok : goal.returns-in-Ok
returns-in-Ok c = c.accepted.ensures ∙ ap order_report (sym c.in-Ok.is ∙ c.kaiserord.ensures)

pub returns-in-Err : goal.returns-in-Err
returns-in-Err c = c.from.ensures ∙ ap order_report (sym c.in-Err.is ∙ c.kaiserord.ensures)
