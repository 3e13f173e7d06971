-- `fir_halfband::HalfbandDesign::tap` meets its contract: no raw tap is kept. Assumes nothing.
use native.Mathlib.Omega.{arith}
use Rattle.fir_halfband.proofs.HalfbandDesign.tap.Goals as goal

pub returns : goal.returns
returns c = c.cached_tap.ensures (λ i h l. absurd (omega arith))
