-- `fmt_f32::to_f32_sos` meets its contract. Assumes nothing.
use mathlib.Core.Path.{◌∙◌}
use Prim.Native.Nat.{◌%◌}
use native.Mathlib.Nat.{mod-one}
use native.Mathlib.Omega.{arith}
use borrow.Author.Tests.{eq-eqb}
use lib.ListN.{length}
use Rattle.verdict.specs.Converts.{groups_of}
use Rattle.verdict.specs.ConvertsLaws.{part_group, lengths_refused}
use Rattle.fmt_f32.proofs.slices.to_f32_sos.Goals as goal

pub returns-then-m-ne0 : goal.returns-then-m-ne0
returns-then-m-ne0 c = lengths_refused (part_group 5 _ _ c.if-m-ne0.true)

pub returns : goal.returns
unfolding groups_of
returns c =
    let n = length c.args.src.now in
    let one = eq-eqb (n % 1) 0 (mod-one n) in
    let five = eq-eqb (n % 5) 0 (omega arith) in
    record { answer = c.to_f32.ensures.answer ∙ rw (one, five); buffer = c.to_f32.ensures.buffer ∙ rw (one, five) }
