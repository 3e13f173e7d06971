-- `c_gain::level::pel_window_gain` meets its contract. Assumes nothing.
use mathlib.Core.Path.{sym}
use Prim.Native.Nat.{◌%◌}
use borrow.Author.Tests.{eq-eqb, ne_eqb}
use lib.ListN.{length}
use lib.Ieee.{of_int, of_bits}
use Rattle.c_gain.specs.Level.{gain_report}
use Rattle.c_gain.proofs.level.pel_window_gain.Goals as goal

pub returns-then-len-ne0 : goal.returns-then-len-ne0
unfolding gain_report of_int of_bits
returns-then-len-ne0 c = sym (rw (ne_eqb (length c.args.src.now % 4) 0 c.if-len-ne0.true))

pub returns : goal.returns
unfolding gain_report
returns c = rw c.gain_in-g.ensures (sym (rw (eq-eqb (length c.args.src.now % 4) 0 c.if-len-ne0.false)))
