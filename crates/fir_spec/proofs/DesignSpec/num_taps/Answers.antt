-- `fir_spec::DesignSpec::num_taps` meets its contract. Assumes nothing.
use Rattle.std.proofs.Common.{rules}
use Rattle.fir_spec.specs.Spec.{num_taps_of}
use Rattle.fir_spec.proofs.DesignSpec.num_taps.Goals as goal

pub returns-in_err-spec_order : goal.returns-in_err-spec_order
unfolding num_taps_of
returns-in_err-spec_order c = search rules

pub returns : goal.returns
unfolding num_taps_of
returns c = search rules
