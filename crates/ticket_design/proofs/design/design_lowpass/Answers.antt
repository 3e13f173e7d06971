-- `ticket_design::design::design_lowpass` meets its contract: the count, and then what `put_lowpass` answers. Assumes
-- nothing.
use mathlib.Core.Path.{sym, ◌∙◌}
use Prim.Native.Nat.{ℕ, ◌/◌}
use lib.ListN.{length}
use Rattle.verdict.specs.Outcome.{Outcome}
use Rattle.wire.proofs.WritesLaws.{leaves, writes_same}
use Rattle.fir_lowpass.specs.Lowpass.{lowpass_of, outcome_of}
use Rattle.ticket_design.specs.Design.{float, window_for, ticket_outcome}
use Rattle.ticket_design.specs.DesignLaws.{other_count, same_count}
use Rattle.ticket_design.proofs.design.design_lowpass.Goals as goal

pub returns-then-other_count : goal.returns-then-other_count
unfolding ticket_outcome
returns-then-other_count c =
    let len : ℕ = length c.args.out.now in
    let outcome : Outcome = outcome_of (lowpass_of (float c.args.l.cutoff) (float c.args.l.rate) (window_for c.args.l.window) (len / 8)) in
    leaves (other_count c.args.l.count len outcome (sym c.other_count.ensures ∙ c.if-other_count.true)) c.from.ensures

pub returns : goal.returns
unfolding ticket_outcome
returns c =
    let len : ℕ = length c.args.out.now in
    let outcome : Outcome = outcome_of (lowpass_of (float c.args.l.cutoff) (float c.args.l.rate) (window_for c.args.l.window) (len / 8)) in
    let same = same_count c.args.l.count len outcome (sym c.other_count.ensures ∙ c.if-other_count.false) in
    writes_same same (rw (← c.window_for-w.ensures, ← c.float_of-cutoff.ensures, ← c.float_of-rate.ensures) c.put_lowpass.ensures)
