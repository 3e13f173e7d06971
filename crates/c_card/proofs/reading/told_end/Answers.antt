-- `c_card::reading::told_end` meets its contract, an end and a refusal. Assumes nothing.
use mathlib.Core.Path.{sym, ap, ◌∙◌}
use lib.Ieee.{of_int, of_bits}
use Rattle.verdict.specs.Reports.{done_report}
use Rattle.c_card.proofs.reading.told_end.Goals as goal

pub returns-in-Ok : goal.returns-in-Ok
unfolding of_int of_bits
returns-in-Ok c = c.accepted.ensures ∙ ap (done_report c.args.n) (sym c.in-Ok.is)

pub returns-in-Err : goal.returns-in-Err
returns-in-Err c = c.from.ensures ∙ ap (done_report c.args.n) (sym c.in-Err.is)
