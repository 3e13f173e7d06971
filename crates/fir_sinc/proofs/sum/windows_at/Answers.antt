-- `fir_sinc::sum::windows_at` meets its contract. Assumes nothing.
use mathlib.Core.Path.{◌≡◌, ap, ◌∙◌}
use native.Mathlib.Omega.{arith}
use lib.Ieee.{Float}
use Rattle.win_shapes.specs.Steps.{argument_of}
use Rattle.fir_sinc.specs.StepLaws.{curve_of, windowed}
use Rattle.fir_sinc.proofs.sum.windows_at.Goals as goal

pub returns : goal.returns
returns c =
    let a = c.args in
    let many : a.n ≡ 1 → ⊥ = λ (e : a.n ≡ 1). omega (arith, c.requires.n_low) in
    record { first = windowed a.w a.i0 a.n a.i many (c.arguments_of-x.ensures.first ∙ ap (λ (p : Float). argument_of (curve_of a.w) p) c.place_at.ensures) c.values_of.ensures.first; second = windowed a.w a.i0 a.n a.j many (c.arguments_of-x.ensures.second ∙ ap (λ (p : Float). argument_of (curve_of a.w) p) c.place_at-2.ensures) c.values_of.ensures.second }
