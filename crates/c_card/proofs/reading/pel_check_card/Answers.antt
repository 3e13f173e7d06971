-- `c_card::reading::pel_check_card` meets its contract: what `check` finds, told. Assumes nothing.
use mathlib.Core.Path.{ap, ◌∙◌}
use Prim.Native.Nat.{ℕ}
use Rattle.verdict.specs.Reports.{done_report}
use Rattle.c_card.proofs.reading.pel_check_card.Goals as goal

pub returns : goal.returns
returns c =
    record {
      held = c.check-checked.ensures.held;
      ended = c.check-checked.result.ended;
      tickets = c.check-checked.ensures.tickets;
      reads = c.check-checked.ensures.reads;
      report = c.told_end-report.ensures ∙ ap (λ (n : ℕ). done_report n c.check-checked.result.ended) c.check-checked.ensures.tickets;
    }
