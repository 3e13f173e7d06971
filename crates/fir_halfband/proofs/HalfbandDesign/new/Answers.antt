-- `fir_halfband::HalfbandDesign::new` meets its contract. Assumes nothing.
use Rattle.fir_halfband.proofs.HalfbandDesign.new.Goals as goal

pub returns : goal.returns
returns c = c.prepare.ensures.is
