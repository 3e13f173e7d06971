-- `win_cosines::number_at` meets its contract. Assumes nothing.
use Rattle.std.proofs.Common.{sym}
use lib.Ieee.{nan, of_bits, of_int}
use lib.ListN.{get_or-eq_default}
use Rattle.laws.specs.Binary64.{whole}
use Rattle.win_cosines.proofs.LoadLaws.{given}
use Rattle.win_cosines.proofs.number_at.Goals as goal

pub returns-then-i-numbers : goal.returns-then-i-numbers
returns-then-i-numbers c = given c.args.numbers.now c.args.i nan (whole 0) c.if-i-numbers.true

pub returns-else-i-numbers : goal.returns-else-i-numbers
unfolding of_bits of_int
returns-else-i-numbers c = sym (get_or-eq_default c.args.numbers.now (whole 0) c.if-i-numbers.false)
