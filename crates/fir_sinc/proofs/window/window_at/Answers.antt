-- `fir_sinc::window::window_at` meets its contract. Assumes nothing.
use Rattle.fir_sinc.specs.StepLaws.{in_steps}
use Rattle.fir_sinc.proofs.window.window_at.Goals as goal

pub returns : goal.returns
returns c =
    let a = c.args in
    in_steps a.w a.i0 a.n a.i c.curve_of.ensures c.place_at.ensures c.argument_of.ensures c.value_at.ensures
