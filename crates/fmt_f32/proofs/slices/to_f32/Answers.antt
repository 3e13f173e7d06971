-- `fmt_f32::to_f32` meets its contract. Assumes nothing.
use native.Mathlib.Nat.{mod-one}
use Rattle.verdict.specs.ConvertsLaws.{other_count, lengths_refused}
use Rattle.fmt_f32.proofs.slices.to_f32.Goals as goal

pub returns-then-src-dst : goal.returns-then-src-dst
returns-then-src-dst c = lengths_refused (other_count 1 _ _ (mod-one _) c.if-src-dst.true)

pub returns : goal.returns
returns c = c.narrow_all.ensures
