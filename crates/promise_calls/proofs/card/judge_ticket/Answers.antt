-- `promise_calls::card::judge_ticket` meets its contract: what its export ensures, by demand 1. Assumes nothing.
use mathlib.Core.Path.{ap, ◌∙◌}
use Rattle.verdict.specs.Outcome.{Outcome, answered}
use Rattle.verdict.specs.declared.Report.{Report}
use Rattle.ticket_kinds.specs.Kinds.{formed_of}
use Rattle.c_card.specs.Tickets.{judged_for}
use Rattle.promise_refusals.proofs.ListedLaws.{numbered, outcome_heard}
use Rattle.promise_card.specs.TicketsLaws.{judged_listed}
use Rattle.promise_calls.proofs.card.judge_ticket.Goals as goal

pub returns : goal.returns
returns c =
    let n = c.args.ticket in
    let o : Outcome = judged_for (formed_of n) in
    numbered (answered o) (ap (λ (r : Report). r.number) c.pel_judge_ticket.ensures ∙ outcome_heard o) (judged_listed n)
