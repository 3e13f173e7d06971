-- `c_lowpass::prototype::pel_channelizer_taps` meets its contract. Assumes nothing.
use mathlib.Core.Path.{ap, ◌∙◌}
use Rattle.verdict.specs.Reports.{length_report}
use Rattle.c_lowpass.proofs.prototype.pel_channelizer_taps.Goals as goal

pub returns : goal.returns
returns c = c.from.ensures ∙ ap length_report c.channelizer_taps.ensures
