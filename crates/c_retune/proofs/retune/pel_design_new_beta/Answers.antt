-- `c_retune::retune::pel_design_new_beta` meets its contract: what is read of the record, and then the turn. Assumes nothing.
use Rattle.std.specs.Prelude.{Err, Result}
use mathlib.Core.Path.{sym, ap, ◌∙◌}
use mathlib.Core.Bool.{Bool, cond}
use borrow.Author.Tests.{eq-eqb, ne_eqb}
use Prim.Native.Nat.{ℕ}
use lib.ListN.{length}
use Rattle.verdict.specs.declared.Refusal.TheVariants.{Plain}
use Rattle.fir_lowpass.specs.declared.lowpass.Lowpass.{Lowpass}
use Rattle.fir_retune.specs.Retune.{new_beta_of}
use Rattle.fir_retune.proofs.RetuneLaws.{beta_count}
use Rattle.ticket_taps.specs.FitsLaws.{fits}
use Rattle.c_retune.specs.Designs.{read_of, then_of, beta_for}
use Rattle.c_retune.specs.DesignsLaws.{left_so, tunes_as, read_fits, fitting_room}
use Rattle.c_retune.proofs.retune.pel_design_new_beta.Goals as goal
use Rattle.verdict.specs.declared.Refusal.{Refusal}
use Rattle.verdict.specs.declared.Reason.TheVariants as Reason

pub returns-then-design-ne3 : goal.returns-then-design-ne3
unfolding beta_for
returns-then-design-ne3 c =
    let len : ℕ = length c.args.out.now in
    let turn : Lowpass → Result Lowpass Refusal = λ l. let a = c.args in new_beta_of l a.beta in
    let comes : Result Lowpass Refusal → Result Lowpass Refusal = λ x. then_of turn x in
    let by-kaiser : Bool → Result Lowpass Refusal = λ b. cond b (comes (read_of c.args.design len)) (Err (Plain Reason.Code)) in
    left_so (ap by-kaiser (ne_eqb c.args.design.window 3 c.if-design-ne3.true)) c.left.ensures

pub written-requires : goal.written-requires
written-requires c =
    let len : ℕ = length c.args.out.now in
    let turn : Lowpass → Result Lowpass Refusal = λ l. let a = c.args in new_beta_of l a.beta in
    let a = c.args in
    let l = c.in-Ok.lp in
    fits len c.prepare_beta-designed.ensures (fitting_room len l (turn l) (read_fits a.design len l (sym c.read-known.ensures ∙ c.in-Ok.is)) (beta_count l a.beta))

pub returns-in-Ok : goal.returns-in-Ok
unfolding beta_for
returns-in-Ok c =
    let turn : Lowpass → Result Lowpass Refusal = λ l. let a = c.args in new_beta_of l a.beta in
    let comes : Result Lowpass Refusal → Result Lowpass Refusal = λ x. then_of turn x in
    let len : ℕ = length c.args.out.now in
    let by-kaiser : Bool → Result Lowpass Refusal = λ b. cond b (comes (read_of c.args.design len)) (Err (Plain Reason.Code)) in
    tunes_as (c.prepare_beta-designed.ensures.is ∙ sym (ap by-kaiser (eq-eqb c.args.design.window 3 c.if-design-ne3.false) ∙ ap comes (sym c.read-known.ensures ∙ c.in-Ok.is))) c.written.ensures

pub returns-in-Err : goal.returns-in-Err
unfolding beta_for
returns-in-Err c =
    let turn : Lowpass → Result Lowpass Refusal = λ l. let a = c.args in new_beta_of l a.beta in
    let comes : Result Lowpass Refusal → Result Lowpass Refusal = λ x. then_of turn x in
    let len : ℕ = length c.args.out.now in
    let by-kaiser : Bool → Result Lowpass Refusal = λ b. cond b (comes (read_of c.args.design len)) (Err (Plain Reason.Code)) in
    left_so (ap by-kaiser (eq-eqb c.args.design.window 3 c.if-design-ne3.false) ∙ ap comes (sym c.read-known.ensures ∙ c.in-Err.is)) c.left-in-Err.ensures
