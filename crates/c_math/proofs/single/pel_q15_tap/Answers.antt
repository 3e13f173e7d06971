-- `c_math::single::pel_q15_tap` meets its contract. Assumes nothing.
use mathlib.Core.Path.{ap, ◌∙◌}
use Rattle.c_math.specs.Reports.{coded_report}
use Rattle.c_math.proofs.single.pel_q15_tap.Goals as goal

pub returns : goal.returns
returns c = c.told.ensures ∙ ap coded_report c.q15_tap.ensures
