-- `c_pulses::cosine::pel_rrc_len` meets its contract. Assumes nothing.
use mathlib.Core.Path.{ap, ◌∙◌}
use Rattle.verdict.specs.Reports.{length_report}
use Rattle.c_pulses.proofs.cosine.pel_rrc_len.Goals as goal

pub returns : goal.returns
returns c = c.from.ensures ∙ ap length_report c.rrc_len.ensures
