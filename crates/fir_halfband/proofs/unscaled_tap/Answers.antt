-- `fir_halfband::unscaled_tap` meets its contract: the index that comes first is the lesser one. Assumes nothing.
use mathlib.Core.Path.{◌≡◌, sym, ap, ◌∙◌}
use Prim.Native.Nat.{ℕ, ◌-◌, min}
use native.Mathlib.Omega.{arith}
use lib.Ieee.{of_bits, of_int}
use Rattle.fir_lowpass.specs.Lowpass.{tap_of}
use Rattle.fir_halfband.specs.Halfband.{unscaled}
use Rattle.fir_halfband.proofs.unscaled_tap.Goals as goal
use Rattle.fir_halfband.proofs.unscaled_tap.Goals.{else-k-across, then-k-across}

pub returns-then-is_zero_at : goal.returns-then-is_zero_at
unfolding unscaled of_int of_bits
returns-then-is_zero_at c k = sym (rw (sym c.is_zero_at.ensures ∙ c.if-is_zero_at.true))

pub returns : goal.returns
unfolding unscaled
returns c k =
    let is_lesser : (let a = c.args in c.if-k-across.first ≡ min a.k (a.n - 1 - a.k)) = elim c.if-k-across.branch [ then-k-across w ↦ let h = w.if-k-across.true in w.first-is ∙ omega arith | else-k-across w ↦ let h = w.if-k-across.false in w.first-is ∙ omega arith ] in
    let a = c.args in
    c.cached_tap.ensures k ∙ ap (λ (j : ℕ). tap_of a.lp j) is_lesser ∙ sym (rw (sym c.is_zero_at.ensures ∙ c.if-is_zero_at.false))
