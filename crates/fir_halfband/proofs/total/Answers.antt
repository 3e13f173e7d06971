-- `fir_halfband::total` meets its contract. The loop's invariant: the sum of the taps so far. Assumes nothing.
use mathlib.Core.Path.{◌≡◌, ap, ◌∙◌}
use Prim.Native.Nat.{ℕ}
use native.Mathlib.Omega.{arith}
use lib.Ieee.{Float, binary64, add}
use Rattle.laws.specs.Sums.{sum_to}
use Rattle.laws.proofs.SumsLaws.{sum_none, sum_more}
use Rattle.fir_halfband.specs.Halfband.{unscaled}
use Rattle.fir_halfband.proofs.total.Goals as goal

pub loop-k-init : goal.loop-k-init
loop-k-init c =
    let a = c.args in
    λ _. sum_none binary64 (unscaled a.lp a.n)

pub loop-k-preserved : goal.loop-k-preserved
loop-k-preserved c =
    let a = c.args in
    let g = unscaled a.lp a.n in
    λ h. ap (λ (z : Float). add binary64 z c.unscaled_tap-sum.result) (c.loop-k.invariant h)
    ∙ ap (λ (z : Float). add binary64 (sum_to binary64 g c.loop-k.k) z) (c.unscaled_tap-sum.ensures h)
    ∙ sum_more binary64 g c.loop-k.k

pub returns : goal.returns
returns c h =
    let a = c.args in
    let e : c.loop-k.k ≡ a.n = omega arith in
    c.loop-k.invariant h ∙ ap (λ (k : ℕ). sum_to binary64 (unscaled a.lp a.n) k) e
