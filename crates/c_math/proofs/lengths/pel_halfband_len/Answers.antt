-- `c_math::lengths::pel_halfband_len` meets its contract. Assumes nothing.
use mathlib.Core.Path.{ap, ◌∙◌}
use Rattle.verdict.specs.Reports.{length_report}
use Rattle.c_math.proofs.lengths.pel_halfband_len.Goals as goal

pub returns : goal.returns
returns c = c.from.ensures ∙ ap length_report c.halfband_len.ensures
