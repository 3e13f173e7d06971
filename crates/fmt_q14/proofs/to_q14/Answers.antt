-- `fmt_q14::to_q14` meets its contract: whole sections are converted as their numbers are. Assumes nothing.
use Rattle.verdict.specs.ConvertsLaws.{part_group, lengths_refused, in_groups}
use Rattle.fmt_q14.proofs.to_q14.Goals as goal

pub returns-then-n-ne0 : goal.returns-then-n-ne0
returns-then-n-ne0 c = lengths_refused (part_group 5 _ _ c.if-n-ne0.true)

pub returns : goal.returns
returns c = in_groups c.if-n-ne0.false c.convert.ensures
