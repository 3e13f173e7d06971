-- `c_retune::retune::pel_design_new_cutoff` meets its contract: what is read of the record, and then the turn. Assumes nothing.
use Rattle.std.specs.Prelude.{Result}
use mathlib.Core.Path.{sym, ap, ◌∙◌}
use Prim.Native.Nat.{ℕ}
use lib.ListN.{length}
use Rattle.fir_lowpass.specs.declared.lowpass.Lowpass.{Lowpass}
use Rattle.fir_retune.specs.Retune.{new_cutoff_of}
use Rattle.fir_retune.proofs.RetuneLaws.{cutoff_count}
use Rattle.ticket_taps.specs.FitsLaws.{fits}
use Rattle.c_retune.specs.Designs.{then_of, cutoff_for}
use Rattle.c_retune.specs.DesignsLaws.{left_so, tunes_as, read_fits, fitting_room}
use Rattle.c_retune.proofs.retune.pel_design_new_cutoff.Goals as goal
use Rattle.verdict.specs.declared.Refusal.{Refusal}

pub written-requires : goal.written-requires
written-requires c =
    let len : ℕ = length c.args.out.now in
    let turn : Lowpass → Result Lowpass Refusal = λ l. let a = c.args in new_cutoff_of l a.cutoff a.rate in
    let a = c.args in
    let l = c.in-Ok.lp in
    fits len c.prepare_cutoff-designed.ensures (fitting_room len l (turn l) (read_fits a.design len l (sym c.read-known.ensures ∙ c.in-Ok.is)) (cutoff_count l a.cutoff a.rate))

pub returns-in-Ok : goal.returns-in-Ok
unfolding cutoff_for
returns-in-Ok c =
    let turn : Lowpass → Result Lowpass Refusal = λ l. let a = c.args in new_cutoff_of l a.cutoff a.rate in
    let comes : Result Lowpass Refusal → Result Lowpass Refusal = λ x. then_of turn x in
    tunes_as (c.prepare_cutoff-designed.ensures.is ∙ sym (ap comes (sym c.read-known.ensures ∙ c.in-Ok.is))) c.written.ensures

pub returns-in-Err : goal.returns-in-Err
unfolding cutoff_for
returns-in-Err c =
    let turn : Lowpass → Result Lowpass Refusal = λ l. let a = c.args in new_cutoff_of l a.cutoff a.rate in
    let comes : Result Lowpass Refusal → Result Lowpass Refusal = λ x. then_of turn x in
    left_so (ap comes (sym c.read-known.ensures ∙ c.in-Err.is)) c.left.ensures
