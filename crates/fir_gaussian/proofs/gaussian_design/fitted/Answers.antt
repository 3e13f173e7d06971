-- `fir_gaussian::gaussian_design::fitted` meets its contract. Assumes nothing.
use Rattle.fir_design.specs.DesignsLaws.{prepares_fitted}
use Rattle.fir_gaussian.specs.declared.gaussian_design.Gaussian.{Gaussian}
use Rattle.fir_gaussian.proofs.gaussian_design.fitted.Goals as goal

-- the buffer's length is held to the design as it was prepared, so that
-- what was prepared is cited, and then what comes of it for the buffer
pub returns : goal.returns
returns c = prepares_fitted (λ (g : Gaussian). g.n) c.args.len c.prepare.ensures c.fitted.ensures
