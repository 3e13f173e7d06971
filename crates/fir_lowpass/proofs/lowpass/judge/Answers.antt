-- `fir_lowpass::lowpass::judge` meets its contract: what each test says, and then an answer at a time. Assumes nothing.
use mathlib.Core.Path.{◌≡◌, sym, ◌∙◌}
use mathlib.Core.Bool.{true}
use lib.Ieee.{of_bits, of_int}
use Rattle.laws.specs.Binary64.{◌⊘◌}
use Rattle.math_numbers.specs.Numbers.{positive}
use Rattle.fir_lowpass.specs.Lowpass.{inside, count_taken, beta_taken}
use Rattle.fir_lowpass.proofs.LowpassLaws.{count_least, passes, no_series, no_beta, no_count, no_cutoff, no_rate}
use Rattle.fir_lowpass.proofs.lowpass.judge.Goals as goal

pub returns-then-not-is_positive : goal.returns-then-not-is_positive
returns-then-not-is_positive c =
    let a = c.args in
    sym (no_rate a.cutoff a.rate a.window a.n (sym c.is_positive.ensures ∙ c.if-not-is_positive.true))

pub returns-then-not-is_inside : goal.returns-then-not-is_inside
unfolding of_int of_bits
returns-then-not-is_inside c =
    let past1 : positive c.args.rate ≡ true = sym c.is_positive.ensures ∙ c.if-not-is_positive.false in
    let a = c.args in
    sym (no_cutoff a.cutoff a.rate a.window a.n past1 (sym c.is_inside.ensures ∙ c.if-not-is_inside.true))

pub returns-then-not-takes_count : goal.returns-then-not-takes_count
returns-then-not-takes_count c =
    let past1 : positive c.args.rate ≡ true = sym c.is_positive.ensures ∙ c.if-not-is_positive.false in
    let past2 : inside (c.args.cutoff ⊘ c.args.rate) ≡ true = sym c.is_inside.ensures ∙ c.if-not-is_inside.false in
    let a = c.args in
    sym (no_count a.cutoff a.rate a.window a.n past1 past2 (sym c.takes_count.ensures ∙ c.if-not-takes_count.true))

pub returns-then-not-takes_beta : goal.returns-then-not-takes_beta
returns-then-not-takes_beta c =
    let past1 : positive c.args.rate ≡ true = sym c.is_positive.ensures ∙ c.if-not-is_positive.false in
    let past2 : inside (c.args.cutoff ⊘ c.args.rate) ≡ true = sym c.is_inside.ensures ∙ c.if-not-is_inside.false in
    let past3 : count_taken c.args.n ≡ true = sym c.takes_count.ensures ∙ c.if-not-takes_count.false in
    let a = c.args in
    sym (no_beta a.cutoff a.rate a.window a.n past1 past2 past3 (sym c.takes_beta.ensures ∙ c.if-not-takes_beta.true))

pub series_settle-requires : goal.series_settle-requires
series_settle-requires c =
    let past3 : count_taken c.args.n ≡ true = sym c.takes_count.ensures ∙ c.if-not-takes_count.false in
    count_least c.args.n past3

pub returns-then-not-series_settle : goal.returns-then-not-series_settle
returns-then-not-series_settle c =
    let past1 : positive c.args.rate ≡ true = sym c.is_positive.ensures ∙ c.if-not-is_positive.false in
    let past2 : inside (c.args.cutoff ⊘ c.args.rate) ≡ true = sym c.is_inside.ensures ∙ c.if-not-is_inside.false in
    let past3 : count_taken c.args.n ≡ true = sym c.takes_count.ensures ∙ c.if-not-takes_count.false in
    let past4 : beta_taken c.args.window ≡ true = sym c.takes_beta.ensures ∙ c.if-not-takes_beta.false in
    let a = c.args in
    sym (no_series a.cutoff a.rate a.window a.n past1 past2 past3 past4 (sym c.series_settle.ensures ∙ c.if-not-series_settle.true))

pub returns : goal.returns
returns c =
    let past1 : positive c.args.rate ≡ true = sym c.is_positive.ensures ∙ c.if-not-is_positive.false in
    let past2 : inside (c.args.cutoff ⊘ c.args.rate) ≡ true = sym c.is_inside.ensures ∙ c.if-not-is_inside.false in
    let past3 : count_taken c.args.n ≡ true = sym c.takes_count.ensures ∙ c.if-not-takes_count.false in
    let past4 : beta_taken c.args.window ≡ true = sym c.takes_beta.ensures ∙ c.if-not-takes_beta.false in
    let a = c.args in
    sym (passes a.cutoff a.rate a.window a.n past1 past2 past3 past4 (sym c.series_settle.ensures ∙ c.if-not-series_settle.false))
