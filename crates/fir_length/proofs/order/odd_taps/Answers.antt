-- `fir_length::order::odd_taps` meets its contract. Assumes nothing.
use mathlib.Core.Path.{◌≡◌, ap, ◌∙◌}
use Prim.Native.Nat.{◌%◌}
use borrow.Author.Tests.{eq-eqb, ne_eqb}
use lib.Ieee.{Float, to_unsigned}
use Rattle.math_round.specs.Whole.{ceil_of}
use Rattle.fir_length.specs.Kaiser.{odd_up}
use Rattle.fir_length.proofs.order.odd_taps.Goals as goal

pub returns-then-n-eq0 : goal.returns-then-n-eq0
unfolding odd_up
returns-then-n-eq0 c =
    let count : c.to_count-n.result ≡ to_unsigned 64 (ceil_of c.args.num) = c.to_count-n.ensures ∙ ap (λ (z : Float). to_unsigned 64 z) c.ceil.ensures in
    rw (← count, eq-eqb (c.to_count-n.result % 2) 0 c.if-n-eq0.true)

pub returns-else-n-eq0 : goal.returns-else-n-eq0
unfolding odd_up
returns-else-n-eq0 c =
    let count : c.to_count-n.result ≡ to_unsigned 64 (ceil_of c.args.num) = c.to_count-n.ensures ∙ ap (λ (z : Float). to_unsigned 64 z) c.ceil.ensures in
    rw (← count, ne_eqb (c.to_count-n.result % 2) 0 c.if-n-eq0.false)
