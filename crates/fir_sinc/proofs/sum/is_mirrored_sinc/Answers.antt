-- `fir_sinc::sum::is_mirrored_sinc` meets its contract: what is tested is what `same_sinc` asks. Assumes nothing.
use mathlib.Core.Path.{sym}
use mathlib.Core.Bool.{true≢false}
use lib.Ieee.{of_bits, of_int, eq}
use Rattle.laws.specs.Binary64.{whole}
use Rattle.laws.specs.Tests.{neither}
use Rattle.fir_sinc.specs.Mirrored.{same_sinc}
use Rattle.fir_sinc.proofs.sum.is_mirrored_sinc.Goals as goal

pub returns-then-x-y : goal.returns-then-x-y
returns-then-x-y c h = absurd (true≢false (sym h))

pub returns-then-is_same : goal.returns-then-is_same
unfolding of_int of_bits
returns-then-is_same c h =
    let a = c.args in
    let t = neither (eq a.x (whole 0)) (eq a.y (whole 0)) c.if-x-y.false in
    same_sinc a.x a.y t.0 t.1 (c.is_same.ensures.if_true c.if-is_same.true) (c.is_opposite.ensures.if_true h)

pub returns-else-is_same : goal.returns-else-is_same
returns-else-is_same c h = absurd (true≢false (sym h))
