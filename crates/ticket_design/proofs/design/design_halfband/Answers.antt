-- `ticket_design::design::design_halfband` meets its contract: the count, and then what `put_halfband` answers. Assumes
-- nothing.
use mathlib.Core.Path.{sym, ◌∙◌}
use Prim.Native.Nat.{ℕ, ◌/◌}
use lib.ListN.{length}
use Rattle.verdict.specs.Outcome.{Outcome}
use Rattle.wire.proofs.WritesLaws.{leaves, writes_same}
use Rattle.fir_halfband.specs.Halfband.{halfband_of, outcome_of}
use Rattle.ticket_design.specs.Design.{float, ticket_outcome}
use Rattle.ticket_design.specs.DesignLaws.{other_count, same_count}
use Rattle.ticket_design.proofs.design.design_halfband.Goals as goal

pub returns-then-other_count : goal.returns-then-other_count
unfolding ticket_outcome
returns-then-other_count c =
    let len : ℕ = length c.args.out.now in
    let outcome : Outcome = outcome_of (halfband_of (float c.args.h.beta) (len / 8)) in
    leaves (other_count c.args.h.count len outcome (sym c.other_count.ensures ∙ c.if-other_count.true)) c.from.ensures

pub returns : goal.returns
unfolding ticket_outcome
returns c =
    let len : ℕ = length c.args.out.now in
    let outcome : Outcome = outcome_of (halfband_of (float c.args.h.beta) (len / 8)) in
    let same = same_count c.args.h.count len outcome (sym c.other_count.ensures ∙ c.if-other_count.false) in
    writes_same same (rw (← c.float_of-beta.ensures) c.put_halfband.ensures)
