-- `fir_lowpass::lowpass::prepare` meets its contract: what came of the numbers, and then the design. Assumes nothing.
use Rattle.std.specs.Prelude.{Ok, Err}
use Rattle.std.proofs.Common.{rules}
use mathlib.Core.Path.{◌≡◌, sym, ap, ◌∙◌}
use lib.Ieee.{Float}
use Rattle.laws.specs.Binary64.{◌⊘◌}
use Rattle.fir_sinc.specs.Windows.{norm_of}
use Rattle.fir_lowpass.specs.Lowpass.{judgement_of, design_of, lowpass_of}
use Rattle.fir_lowpass.proofs.LowpassLaws.{count_most, passed, builds, refuses}
use Rattle.fir_design.specs.DesignsLaws.{prepares_as, prepares_refusal}
use Rattle.fir_lowpass.proofs.lowpass.prepare.Goals as goal

pub build-requires : goal.build-requires
build-requires c =
    let a = c.args in
    count_most a.n (passed a.cutoff a.rate a.window a.n (sym c.judge.ensures ∙ c.in_ok-judge.was)).counted

pub returns-in_err-judge : goal.returns-in_err-judge
unfolding lowpass_of
returns-in_err-judge c =
    let a = c.args in
    let refused : c.from_residual.result ≡ Err c.in_err-judge.field-0.0 = search rules in
    rw refused (prepares_refusal _ _ _ (refuses a.cutoff a.rate a.window (norm_of a.window) a.n _ (sym c.judge.ensures ∙ c.in_err-judge.was)))

pub returns : goal.returns
unfolding lowpass_of
returns c =
    let a = c.args in
    let done : judgement_of a.cutoff a.rate a.window a.n ≡ Ok tt = sym c.judge.ensures ∙ c.in_ok-judge.was in
    prepares_as
    (ap (λ (z : Float). design_of (a.cutoff ⊘ a.rate) a.window z a.n) c.norm.ensures
    ∙ sym (builds a.cutoff a.rate a.window (norm_of a.window) a.n done))
    c.build.ensures
