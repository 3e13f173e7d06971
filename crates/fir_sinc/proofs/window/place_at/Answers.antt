-- `fir_sinc::window::place_at` meets its contract. Assumes nothing.
use mathlib.Core.Path.{ap, ◌∙◌}
use Prim.Native.Nat.{◌-◌, ◌^◌}
use lib.Dec.{le→leb}
use lib.Ieee.{in_float}
use Rattle.laws.specs.Binary64.{whole}
use Rattle.win_shapes.specs.declared.curve.Curve.{Curve}
use Rattle.win_shapes.specs.Steps as Steps
use Rattle.fir_sinc.specs.StepLaws.{place_at}
use native.Mathlib.Omega.{arith}
use Rattle.fir_sinc.proofs.window.place_at.Goals as goal

pub int_to_float-i : goal.int_to_float-i
unfolding in_float
int_to_float-i c = le→leb c.args.i (2 ^ 53) (omega arith)

pub int_to_float-n : goal.int_to_float-n
unfolding in_float
int_to_float-n c = le→leb (c.args.n - 1) (2 ^ 53) (omega arith)

pub returns : goal.returns
unfolding place_at
returns c =
    let a = c.args in
    c.place_at.ensures ∙ ap (λ (z : Curve). Steps.place_at z (whole a.i) (whole (a.n - 1))) c.curve_of.ensures
