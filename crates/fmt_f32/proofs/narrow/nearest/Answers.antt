-- `fmt_f32::nearest` meets its contract: the three branches are the definition's. Assumes nothing.
use mathlib.Core.Path.{sym}
use Prim.Native.Nat.{Ordering}
use native.Mathlib.Nat.{mod-lt, div-le_self}
use native.Mathlib.Numerals.{add-one}
use native.Mathlib.Omega.{arith}
use Rattle.laws.specs.Closest.{closest_by}
use Rattle.fmt_f32.proofs.narrow.nearest.Goals as goal

pub overflow_mul-twice : goal.overflow_mul-twice
overflow_mul-twice c = omega (arith, mod-lt c.args.m c.requires.0)

pub overflow_add-result : goal.overflow_add-result
overflow_add-result c = let a = c.args in omega (arith, div-le_self a.m a.u)

pub overflow_add-result-else-twice-u-2 : goal.overflow_add-result-else-twice-u-2
overflow_add-result-else-twice-u-2 c = let a = c.args in omega (arith, div-le_self a.m a.u)

pub returns-then-twice-u : goal.returns-then-twice-u
returns-then-twice-u c = let a = c.args in sym (closest_by a.m a.u Ordering.lt (omega arith))

pub returns-then-twice-u-2 : goal.returns-then-twice-u-2
returns-then-twice-u-2 c = let a = c.args in sym (closest_by a.m a.u Ordering.eq (omega arith))

pub returns-else-twice-u-2 : goal.returns-else-twice-u-2
returns-else-twice-u-2 c = let a = c.args in rw add-one (sym (closest_by a.m a.u Ordering.gt (omega arith)))
