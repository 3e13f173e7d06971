-- `win_sampled::shape::place_at` meets its contract. Assumes nothing.
use Rattle.std.proofs.Common.{◌∙◌}
use Rattle.win_sampled.specs.SampleLaws.{place_at}
use Rattle.win_sampled.proofs.shape.place_at.Goals as goal

pub returns : goal.returns
unfolding place_at
returns c = c.place_at.ensures ∙ rw (c.curve_of.ensures, c.nearest_u64_to_f64-p.ensures, c.nearest_u64_to_f64-d.ensures)
