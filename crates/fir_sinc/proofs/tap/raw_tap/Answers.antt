-- `fir_sinc::tap::raw_tap` meets its contract. Assumes nothing.
use mathlib.Core.Path.{sym}
use lib.Ieee.{of_bits, of_int}
use borrow.Author.Tests.{lt-ltb, le-ltb}
use Rattle.fir_sinc.specs.Taps.{raw_within}
use Rattle.fir_sinc.proofs.tap.raw_tap.Goals as goal

pub returns-then-n-gt-TAP_LIMIT : goal.returns-then-n-gt-TAP_LIMIT
unfolding raw_within of_int of_bits
returns-then-n-gt-TAP_LIMIT c = sym (rw (lt-ltb 16777216 c.args.n c.if-n-gt-TAP_LIMIT.true))

pub returns-then-i-n : goal.returns-then-i-n
unfolding raw_within of_int of_bits
returns-then-i-n c =
    let a = c.args in
    rw c.raw_at.ensures (sym (rw (le-ltb 16777216 a.n c.if-n-gt-TAP_LIMIT.false, lt-ltb a.i a.n c.if-i-n.true)))

pub returns-else-i-n : goal.returns-else-i-n
unfolding raw_within of_int of_bits
returns-else-i-n c =
    let a = c.args in
    sym (rw (le-ltb 16777216 a.n c.if-n-gt-TAP_LIMIT.false, le-ltb a.i a.n c.if-i-n.false))
