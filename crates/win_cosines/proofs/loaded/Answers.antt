-- `win_cosines::loaded` meets its contract. Assumes nothing.
use Rattle.std.specs.Prelude.{Err, Ok}
use Rattle.std.proofs.Common.{◌≡◌, rules, Bool, cond, sym, ap, ◌∙◌, arith}
use Rattle.verdict.specs.declared.Refusal.TheVariants.{Plain}
use Rattle.win_cosines.proofs.LoadLaws.{too_few, too_many, not_taken, by_sum}
use Rattle.win_cosines.proofs.loaded.Goals as goal
use Rattle.verdict.specs.declared.Reason.TheVariants as Reason

pub returns-then-count-lt1 : goal.returns-then-count-lt1
returns-then-count-lt1 c cs k is = c.miscounted.ensures ∙ too_few cs k is (omega arith)

pub returns-then-count-gt5 : goal.returns-then-count-gt5
returns-then-count-gt5 c cs k is = c.miscounted-then-count-gt5.ensures ∙ too_many cs k is (omega arith)

pub returns-then-sums_to_one : goal.returns-then-sums_to_one
returns-then-sums_to_one c cs k is =
    ap (λ (b : Bool). cond b (Ok c.args.c) (Err (Plain Reason.CoefficientSum))) (sym c.if-sums_to_one.true)
    ∙ by_sum cs k is (omega arith) (omega arith) c.sums_to_one.result (sym (c.in_ok-judge.was) ∙ c.judge.ensures) c.sums_to_one.ensures

pub returns-else-sums_to_one : goal.returns-else-sums_to_one
returns-else-sums_to_one c cs k is =
    ap (λ (b : Bool). cond b (Ok c.args.c) (Err (Plain Reason.CoefficientSum))) (sym c.if-sums_to_one.false)
    ∙ by_sum cs k is (omega arith) (omega arith) c.sums_to_one.result (sym (c.in_ok-judge.was) ∙ c.judge.ensures) c.sums_to_one.ensures

pub returns-in_err-judge : goal.returns-in_err-judge
returns-in_err-judge c cs k is =
    let refused : c.from_residual.result ≡ Err c.in_err-judge.field-0.0 = search rules in
    refused ∙ not_taken cs k is (omega arith) (omega arith) _ (sym (c.in_err-judge.was) ∙ c.judge.ensures)
