-- `promise_calls::lengths::bessel_i0` meets its contract: what its export ensures, by demand 1 and since sum and terms are
-- kept. Assumes nothing.
use Rattle.math_bessel.specs.Series.{series_of}
use Rattle.c_math.specs.SeriesTold.{KeepsSum, sum_kept}
use Rattle.promise_refusals.specs.Judgements.{series_listed}
use Rattle.promise_refusals.proofs.ListedLaws.{numbered, series_heard}
use Rattle.promise_refusals.specs.Verdicts.{of_series}
use Rattle.verdict.specs.declared.Report.{Report}
use mathlib.Core.Path.{sym, ap, ◌∙◌, subst}
use Rattle.promise_calls.proofs.lengths.bessel_i0.Goals as goal

pub returns : goal.returns
returns c =
    let x = c.args.x in
    let number = ap (λ (r : Report). r.number) c.pel_bessel_i0.ensures ∙ series_heard (series_of x) in
    record { numbered = numbered (of_series (series_of x)) number (series_listed (series_of x)); keeps_sum = subst (KeepsSum x) (sym c.pel_bessel_i0.ensures) (sum_kept x) }
