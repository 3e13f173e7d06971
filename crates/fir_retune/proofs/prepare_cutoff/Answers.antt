-- `fir_retune::prepare_cutoff` meets its contract. Assumes nothing.
use Rattle.fir_retune.specs.Retune.{new_cutoff_of}
use Rattle.fir_retune.proofs.prepare_cutoff.Goals as goal

pub returns : goal.returns
unfolding new_cutoff_of
returns c = c.prepare_with.ensures
