-- `fir_rrc::design::Rrc::tap` meets its contract. Assumes nothing.
use Rattle.std.proofs.Common.{sym, le-ltb, lt-ltb}
use lib.Ieee.{of_bits, of_int}
use Rattle.fir_rrc.specs.Rrc.{tap_of}
use Rattle.fir_rrc.proofs.design.Rrc.tap.Goals as goal

pub returns-then-n-gt-TAP_LIMIT : goal.returns-then-n-gt-TAP_LIMIT
unfolding tap_of of_int of_bits
returns-then-n-gt-TAP_LIMIT c = sym (rw (lt-ltb 16777216 c.args.self.n c.if-n-gt-TAP_LIMIT.true))

pub returns-then-sps-gt-TAP_LIMIT : goal.returns-then-sps-gt-TAP_LIMIT
unfolding tap_of of_int of_bits
returns-then-sps-gt-TAP_LIMIT c =
    let at = c.args in
    let d = at.self in
    sym (rw (le-ltb 16777216 d.n c.if-n-gt-TAP_LIMIT.false, lt-ltb at.k d.n c.if-k-n.true, lt-ltb 16777216 d.sps c.if-sps-gt-TAP_LIMIT.true))

pub returns-else-sps-gt-TAP_LIMIT : goal.returns-else-sps-gt-TAP_LIMIT
unfolding tap_of of_int of_bits
returns-else-sps-gt-TAP_LIMIT c =
    let at = c.args in
    let d = at.self in
    rw c.unscaled_at.ensures (sym (rw (le-ltb 16777216 d.n c.if-n-gt-TAP_LIMIT.false, lt-ltb at.k d.n c.if-k-n.true, le-ltb 16777216 d.sps c.if-sps-gt-TAP_LIMIT.false)))

pub returns-else-k-n : goal.returns-else-k-n
unfolding tap_of of_int of_bits
returns-else-k-n c =
    let at = c.args in
    sym (rw (le-ltb 16777216 at.self.n c.if-n-gt-TAP_LIMIT.false, le-ltb at.k at.self.n c.if-k-n.false))
