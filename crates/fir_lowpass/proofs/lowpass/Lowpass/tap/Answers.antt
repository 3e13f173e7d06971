-- `fir_lowpass::lowpass::Lowpass::tap` meets its contract. Assumes nothing.
use mathlib.Core.Path.{refl, sym}
use lib.Ieee.{of_bits, of_int}
use borrow.Author.Tests.{lt-ltb, le-ltb}
use Rattle.fir_sinc.specs.Taps.{raw_within}
use Rattle.fir_lowpass.specs.Lowpass.{tap_of}
use Rattle.fir_lowpass.proofs.lowpass.Lowpass.tap.Goals as goal

pub returns-then-n-gt-TAP_LIMIT : goal.returns-then-n-gt-TAP_LIMIT
unfolding tap_of of_int of_bits
returns-then-n-gt-TAP_LIMIT c = sym (rw (lt-ltb 16777216 c.args.self.n c.if-n-gt-TAP_LIMIT.true))

pub returns-then-i-n : goal.returns-then-i-n
unfolding tap_of raw_within of_int of_bits
returns-then-i-n c =
    let at = c.args in
    let few = c.if-n-gt-TAP_LIMIT.false in
    let within = c.if-i-n.true in
    rw (c.raw_tap.ensures, le-ltb 16777216 at.self.n few, lt-ltb at.i at.self.n within) refl

pub returns-else-i-n : goal.returns-else-i-n
unfolding tap_of of_int of_bits
returns-else-i-n c =
    let at = c.args in
    sym (rw (le-ltb 16777216 at.self.n c.if-n-gt-TAP_LIMIT.false, le-ltb at.i at.self.n c.if-i-n.false))
