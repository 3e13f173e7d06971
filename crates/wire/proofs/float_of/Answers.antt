-- `wire::float_of` meets its contract: the test tells a NaN's pattern. Assumes nothing.
use lib.Ieee.{div, of_bits, binary64}
use Rattle.wire.specs.Read.{nan_above, not_nan}
use Rattle.wire.proofs.float_of.Goals as goal

pub float_from_bits-result : goal.float_from_bits-result
float_from_bits-result c = not_nan binary64 c.args.n c.if-n-gt9218868437227405312.false

pub returns-then-n-gt9218868437227405312 : goal.returns-then-n-gt9218868437227405312
unfolding div of_bits
returns-then-n-gt9218868437227405312 c = nan_above binary64 c.args.n c.if-n-gt9218868437227405312.true
