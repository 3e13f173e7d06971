-- `fir_spec::DesignSpec::lowpass` meets its contract. Assumes nothing.
use Rattle.std.proofs.Common.{rules}
use Rattle.fir_spec.specs.Spec.{spec_lowpass_of}
use Rattle.fir_spec.proofs.DesignSpec.lowpass.Goals as goal

pub returns-in_err-order : goal.returns-in_err-order
unfolding spec_lowpass_of
returns-in_err-order c = search rules

pub returns : goal.returns
unfolding spec_lowpass_of
returns c = search rules
