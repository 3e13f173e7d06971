-- `fir_halfband::cached_tap` meets its contract. Assumes nothing.
use mathlib.Core.Path.{sym, ap, ◌∙◌}
use borrow.Author.Tests.{lt-ltb, le-ltb}
use lib.Ieee.{Float, of_bits, of_int}
use Rattle.laws.specs.Binary64.{◌⊘◌}
use Rattle.fir_halfband.specs.Halfband.{tap_of}
use Rattle.fir_halfband.proofs.cached_tap.Goals as goal

pub returns-then-k-n : goal.returns-then-k-n
unfolding tap_of
returns-then-k-n c k =
    let a = c.args in
    ap (λ (z : Float). z ⊘ a.d.sum) (c.unscaled_tap.ensures k) ∙ sym (rw (lt-ltb a.k a.d.n c.if-k-n.true))

pub returns-else-k-n : goal.returns-else-k-n
unfolding tap_of of_int of_bits
returns-else-k-n c k =
    let a = c.args in
    sym (rw (le-ltb a.k a.d.n c.if-k-n.false))
