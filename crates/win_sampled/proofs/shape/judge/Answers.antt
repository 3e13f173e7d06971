-- `win_sampled::shape::judge` meets its contract: what each test says, and then an answer at a time. Assumes nothing.
use Rattle.std.proofs.Common.{◌≡◌, ℕ, true, sym, ap, ◌∙◌}
use Rattle.win_sampled.specs.Shapes.{shape_taken, divisor_of, series_settle, judgement_of}
use Rattle.win_sampled.proofs.shape.judge.Goals as goal

pub returns-then-not-takes_shape : goal.returns-then-not-takes_shape
unfolding judgement_of
returns-then-not-takes_shape c = sym (rw (sym c.takes_shape.ensures ∙ c.if-not-takes_shape.true))

pub returns-then-not-series_settle : goal.returns-then-not-series_settle
unfolding judgement_of
returns-then-not-series_settle c =
    let taken : shape_taken c.args.shape ≡ true = sym c.takes_shape.ensures ∙ c.if-not-takes_shape.false in
    let settle : (let a = c.args in c.series_settle.result ≡ series_settle a.shape (divisor_of a.symmetry a.n) a.n) = let a = c.args in
    c.series_settle.ensures ∙ ap (λ (d : ℕ). series_settle a.shape d a.n) c.divisor.ensures in
    sym (rw (taken, sym settle ∙ c.if-not-series_settle.true))

pub returns : goal.returns
unfolding judgement_of
returns c =
    let taken : shape_taken c.args.shape ≡ true = sym c.takes_shape.ensures ∙ c.if-not-takes_shape.false in
    let settle : (let a = c.args in c.series_settle.result ≡ series_settle a.shape (divisor_of a.symmetry a.n) a.n) = let a = c.args in
    c.series_settle.ensures ∙ ap (λ (d : ℕ). series_settle a.shape d a.n) c.divisor.ensures in
    sym (rw (taken, sym settle ∙ c.if-not-series_settle.false))
