-- `fir_lowpass::lowpass::prepare_with` meets its contract: what came of the numbers, and then the design. Assumes nothing.
use Rattle.std.specs.Prelude.{Ok, Err}
use Rattle.std.proofs.Common.{rules}
use mathlib.Core.Path.{◌≡◌, sym, ◌∙◌}
use Rattle.fir_lowpass.specs.Lowpass.{judgement_of}
use Rattle.fir_lowpass.proofs.LowpassLaws.{count_most, passed, builds, refuses}
use Rattle.fir_design.specs.DesignsLaws.{prepares_as, prepares_refusal}
use Rattle.fir_lowpass.proofs.lowpass.prepare_with.Goals as goal

pub build-requires : goal.build-requires
build-requires c =
    let a = c.args in
    count_most a.n (passed a.cutoff a.rate a.window a.n (sym c.judge.ensures ∙ c.in_ok-judge.was)).counted

pub returns-in_err-judge : goal.returns-in_err-judge
returns-in_err-judge c =
    let a = c.args in
    let refused : c.from_residual.result ≡ Err c.in_err-judge.field-0.0 = search rules in
    rw refused (prepares_refusal _ _ _ (refuses a.cutoff a.rate a.window a.i0 a.n _ (sym c.judge.ensures ∙ c.in_err-judge.was)))

pub returns : goal.returns
returns c =
    let a = c.args in
    let done : judgement_of a.cutoff a.rate a.window a.n ≡ Ok tt = sym c.judge.ensures ∙ c.in_ok-judge.was in
    prepares_as (sym (builds a.cutoff a.rate a.window a.i0 a.n done)) c.build.ensures
