-- `wire::wide_of` meets its contract: the test tells a NaN's pattern, and every other f32 is an f64. Assumes nothing.
use mathlib.Core.Path.{refl, subst}
use mathlib.Core.Bool.{Bool, not}
use lib.Dec.{T}
use lib.Ieee.{fits, is_nan, div, of_bits, binary32, binary64}
use lib.Ieee.Bits.{of_bits-fits, nan_bits_is}
use lib.Ieee.Fits.{and_i, fits_widens}
use Rattle.wire.specs.Read.{nan_above, not_nan}
use Rattle.wire.proofs.wide_of.Goals as goal

pub float_from_bits-result : goal.float_from_bits-result
float_from_bits-result c = not_nan binary32 c.args.n c.if-n-gt2139095040.false

pub float_to_float-result : goal.float_to_float-result
float_to_float-result c =
    let n = c.args.n in
    let x = of_bits binary32 n in
    and_i (fits binary64 x) (not (is_nan x)) (fits_widens x (of_bits-fits binary32 n)) (subst (λ (b : Bool). T (not b)) (nan_bits_is binary32 n) (not_nan binary32 n c.if-n-gt2139095040.false))

pub returns-then-n-gt2139095040 : goal.returns-then-n-gt2139095040
unfolding div of_bits
returns-then-n-gt2139095040 c = nan_above binary32 c.args.n c.if-n-gt2139095040.true

pub returns-else-n-gt2139095040 : goal.returns-else-n-gt2139095040
returns-else-n-gt2139095040 c = refl
