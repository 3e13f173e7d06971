-- `ticket_slices::gaussian::gaussian` meets its contract. Assumes nothing.
use Rattle.std.proofs.Common.{ap, refl}
use Rattle.verdict.specs.OutcomeLaws.{fills_as}
use Rattle.fir_gaussian.specs.Gaussian.{outcome_of}
use Rattle.ticket_slices.proofs.gaussian.gaussian.Goals as goal

pub slice_bounds-fitted-end : goal.slice_bounds-fitted-end
slice_bounds-fitted-end c = refl

pub returns : goal.returns
returns c = fills_as (ap outcome_of c.fitted-designed.ensures.is) c.finish.ensures
