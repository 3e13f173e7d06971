-- `fmt_f32::pattern_of_bits` meets its contract: a NaN's pattern is told, and of a number the bit of the sign stays.
-- Assumes nothing.
use Prim.Native.Nat.{ℕ, ◌+◌, ◌*◌, ◌/◌, ◌%◌, ◌^◌, ◌<◌}
use native.Mathlib.Omega.{arith}
use Rattle.fmt_f32.proofs.SizedLaws.{normal, infinite}
use Rattle.fmt_f32.proofs.SingleLaws.{narrowed_lt, of_nan, joined}
use Rattle.fmt_f32.proofs.narrow.pattern_of_bits.Goals as goal

pub overflow_add-result : goal.overflow_add-result
overflow_add-result c = omega (arith, narrowed_lt c.small_pattern.ensures)

pub overflow_cast-result : goal.overflow_cast-result
overflow_cast-result c = omega (arith, narrowed_lt c.small_pattern.ensures)

pub returns-then-field-lt897 : goal.returns-then-field-lt897
returns-then-field-lt897 c = joined c.args.b (omega arith) c.small_pattern.result c.small_pattern.ensures

pub overflow_add-result-then-field-lt1151-3 : goal.overflow_add-result-then-field-lt1151-3
overflow_add-result-then-field-lt1151-3 c =
    let b = c.args.b in
    let r = normal (b % 9223372036854775808) (omega arith) (omega arith) in
    record { fits = sum (b / 9223372036854775808) _ (omega arith) (narrowed_lt r) }
  where
    sum : (s r : ℕ) → s < 2 → r < 2147483648 → s * 2147483648 + r < 2 ^ 64
    sum s r h k = omega arith

pub returns-then-field-lt1151 : goal.returns-then-field-lt1151
returns-then-field-lt1151 c = let b = c.args.b in joined b (omega arith) _ (normal (b % 9223372036854775808) (omega arith) (omega arith))

pub returns-then-size-gt9218868437227405312 : goal.returns-then-size-gt9218868437227405312
returns-then-size-gt9218868437227405312 c = of_nan c.args.b c.if-size-gt9218868437227405312.true

pub returns : goal.returns
returns c =
    let b = c.args.b in
    joined b (omega arith) 2139095040 (infinite (b % 9223372036854775808) (omega arith) (omega arith))
