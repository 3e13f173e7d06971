-- `fmt_q15::q15::q15_tap` meets its contract. Assumes nothing.
use mathlib.Core.Path.{sym, ◌∙◌}
use lib.Ieee.{of_bits, of_int, round, sub, add, mul, div, neg}
use mir.Syntax.{w16}
use mir.ValLaws.{to_z-of_z}
use Rattle.fmt_q15.specs.Q15.{q15_tap_of}
use Rattle.fmt_q15.proofs.q15.q15_tap.Goals as goal

pub returns-then-takes_tap : goal.returns-then-takes_tap
unfolding q15_tap_of
returns-then-takes_tap c = rw (sym c.takes_tap.ensures ∙ c.if-takes_tap.true, to_z-of_z w16 c.q15_from_f64.result (record { sfits = c.q15_from_f64.type_inv }), c.q15_from_f64.ensures)

pub returns-else-takes_tap : goal.returns-else-takes_tap
unfolding q15_tap_of of_bits of_int round sub add mul div neg
returns-else-takes_tap c = rw (sym c.takes_tap.ensures ∙ c.if-takes_tap.false)
