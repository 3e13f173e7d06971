-- `quotients` of a Gaussian meets its contract: a raw tap that was kept, over the sum, is the tap. Assumes nothing.
use Rattle.std.proofs.Common.{arith}
use Rattle.fir_gaussian.specs.GaussianLaws.{cached_is}
use Rattle.fir_gaussian.proofs.gaussian_design.GaussianDesign.quotients.Goals as goal

pub returns-clause-taps : goal.returns-clause-taps
returns-clause-taps c k i l =
    let kept = c.kept.ensures in
    cached_is c.args.self c.args.raws.now i (kept.few (omega arith)) (omega (arith, kept.taps)) (omega (arith, kept.within)) k
