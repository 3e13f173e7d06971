-- `win_sampled::shape::sample_at` meets its contract. Assumes nothing.
use Rattle.win_sampled.specs.SampleLaws.{in_steps}
use Rattle.win_sampled.proofs.shape.sample_at.Goals as goal

pub returns : goal.returns
returns c =
    let a = c.args in
    in_steps a.shape a.i0 a.divisor a.i c.curve_of.ensures c.place_at.ensures c.argument_of.ensures c.value_at.ensures
