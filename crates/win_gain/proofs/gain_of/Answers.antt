-- `win_gain::gain_of` meets its contract. Assumes nothing.
use Rattle.std.proofs.Common.{sym, eq-eqb, ne_eqb}
use lib.Ieee.{of_bits, of_int}
use Rattle.win_gain.specs.Gain.{summed}
use Rattle.win_gain.proofs.gain_of.Goals as goal

pub returns-then-n-eq0 : goal.returns-then-n-eq0
unfolding summed of_int of_bits
returns-then-n-eq0 c = sym (rw (eq-eqb c.args.n 0 c.if-n-eq0.true))

pub returns : goal.returns
unfolding summed
returns c = rw c.nearest_u64_to_f64-count.ensures (sym (rw (ne_eqb c.args.n 0 c.if-n-eq0.false)))
