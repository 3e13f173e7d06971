-- `win_sampled::shape::values_of` meets its contract. Kaiser's are worked out together, the others each by itself.
-- Assumes nothing.
use Rattle.std.proofs.Common.{sym, ap, ◌∙◌}
use Rattle.win_sampled.specs.declared.shape.Shape.{Shape}
use Rattle.win_sampled.specs.SampleLaws.{value_of}
use Rattle.win_sampled.proofs.shape.values_of.Goals as goal

pub returns-in-Kaiser : goal.returns-in-Kaiser
unfolding value_of
returns-in-Kaiser c =
    let a = c.args in
    let k = sym c.in-Kaiser.is in
    record { first = c.values.ensures.first ∙ ap (λ (s : Shape). value_of s a.i0 a.x) k; second = c.values.ensures.second ∙ ap (λ (s : Shape). value_of s a.i0 a.y) k }
