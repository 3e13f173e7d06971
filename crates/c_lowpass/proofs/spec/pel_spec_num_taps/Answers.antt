-- `c_lowpass::spec::pel_spec_num_taps` meets its contract. Assumes nothing.
use mathlib.Core.Path.{ap, ◌∙◌}
use Rattle.verdict.specs.Reports.{length_report}
use Rattle.c_lowpass.proofs.spec.pel_spec_num_taps.Goals as goal

pub returns : goal.returns
returns c = c.from.ensures ∙ ap length_report c.num_taps.ensures
