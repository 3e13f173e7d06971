-- `fir_sinc::sum::ideal_near` meets its contract. Assumes nothing.
use mathlib.Core.Path.{◌≡◌, sym, ap, ◌∙◌}
use mathlib.Core.Bool.{true≢false}
use Prim.Native.Nat.{◌-◌}
use native.Mathlib.Omega.{arith}
use Rattle.fir_sinc.specs.Taps.{sinc, offset_at}
use Rattle.fir_sinc.specs.Mirrored.{same_ideal}
use Rattle.fir_sinc.proofs.sum.ideal_near.Goals as goal

pub returns-then-is_mirrored_sinc : goal.returns-then-is_mirrored_sinc
returns-then-is_mirrored_sinc c =
    let a = c.args in
    let j = a.n - 1 - a.i in
    let s : sinc (offset_at a.fc a.n a.i) ≡ sinc (offset_at a.fc a.n j) = ap sinc (sym c.offset_at-then-j-half.ensures) ∙ c.is_mirrored_sinc.ensures c.if-is_mirrored_sinc.true ∙ ap sinc c.offset_at.ensures in
    record { ideal = c.requires.mirrors a.i (omega arith) (omega arith) (omega arith) ∙ sym (same_ideal a.fc a.n a.i j s); same = λ h. (omega arith, s) }

pub returns : goal.returns
returns c = record { ideal = c.ideal_at.ensures; same = λ h. absurd (true≢false (sym h)) }
