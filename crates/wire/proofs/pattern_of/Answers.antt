-- `wire::pattern_of` meets its contract: the test tells a NaN. Assumes nothing.
use mathlib.Core.Path.{sym, ◌∙◌}
use lib.Ieee.{to_bits}
use Rattle.laws.specs.Tests.{fails, ne_self, is_nan_lem}
use Rattle.wire.proofs.pattern_of.Goals as goal

pub float_to_bits-result : goal.float_to_bits-result
float_to_bits-result c = fails (sym (ne_self c.args.x) ∙ c.if-x.false)

pub returns-then-x : goal.returns-then-x
unfolding to_bits
returns-then-x c = rw (is_nan_lem c.args.x (sym (ne_self c.args.x) ∙ c.if-x.true))
