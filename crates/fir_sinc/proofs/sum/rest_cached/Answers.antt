-- `fir_sinc::sum::rest_cached` meets its contract. Assumes nothing.
use Rattle.fir_sinc.specs.Taps.{raw_at}
use Rattle.fir_sinc.proofs.sum.rest_cached.Goals as goal

pub returns : goal.returns
returns c =
    let a = c.args in
    record { is = c.sum_on.ensures (raw_at a.fc a.w a.i0 a.n) c.requires.begun_is c.keep_rest.ensures; keeps = c.keep_rest.ensures }
