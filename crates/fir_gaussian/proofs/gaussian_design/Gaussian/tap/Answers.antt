-- `fir_gaussian::gaussian_design::Gaussian::tap` meets its contract. Assumes nothing.
use Rattle.std.proofs.Common.{sym, le-ltb, lt-ltb}
use lib.Ieee.{of_bits, of_int}
use Rattle.fir_gaussian.specs.Gaussian.{tap_of}
use Rattle.fir_gaussian.proofs.gaussian_design.Gaussian.tap.Goals as goal

pub returns-then-n-gt-TAP_LIMIT : goal.returns-then-n-gt-TAP_LIMIT
unfolding tap_of of_int of_bits
returns-then-n-gt-TAP_LIMIT c = sym (rw (lt-ltb 16777216 c.args.self.n c.if-n-gt-TAP_LIMIT.true))

pub returns-then-i-n : goal.returns-then-i-n
unfolding tap_of of_int of_bits
returns-then-i-n c =
    let at = c.args in
    rw c.raw_at.ensures (sym (rw (le-ltb 16777216 at.self.n c.if-n-gt-TAP_LIMIT.false, lt-ltb at.i at.self.n c.if-i-n.true)))

pub returns-else-i-n : goal.returns-else-i-n
unfolding tap_of of_int of_bits
returns-else-i-n c =
    let at = c.args in
    sym (rw (le-ltb 16777216 at.self.n c.if-n-gt-TAP_LIMIT.false, le-ltb at.i at.self.n c.if-i-n.false))
