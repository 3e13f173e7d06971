-- `c_formats::convert::judge_lengths` meets its contract. Assumes nothing.
use mathlib.Core.Path.{sym, ◌∙◌}
use Prim.Native.Nat.{◌/◌}
use native.Mathlib.Nat.{mod-le}
use Rattle.verdict.specs.ConvertsLaws.{part_group, other_count, same_count}
use Rattle.c_formats.specs.ConversionLaws.{part_source, part_destination, whole_elements}
use Rattle.c_formats.proofs.convert.judge_lengths.Goals as goal

pub returns-then-from-ne0 : goal.returns-then-from-ne0
returns-then-from-ne0 c = sym (part_source _ _ _ _ c.if-from-ne0.true)

pub overflow_sub-result-then-to-wide-ne0 : goal.overflow_sub-result-then-to-wide-ne0
overflow_sub-result-then-to-wide-ne0 c = mod-le c.args.to c.args.wide

pub returns-then-to-wide-ne0 : goal.returns-then-to-wide-ne0
returns-then-to-wide-ne0 c = sym (part_destination _ _ _ _ c.if-from-ne0.false c.if-to-wide-ne0.true)

pub overflow_sub-result-then-n-group-ne0 : goal.overflow_sub-result-then-n-group-ne0
overflow_sub-result-then-n-group-ne0 c = mod-le (c.args.from / 8) c.args.group

pub returns-then-n-group-ne0 : goal.returns-then-n-group-ne0
returns-then-n-group-ne0 c = sym (whole_elements _ _ _ _ c.if-from-ne0.false c.if-to-wide-ne0.false ∙ part_group _ _ _ c.if-n-group-ne0.true)

pub returns-then-n-to : goal.returns-then-n-to
returns-then-n-to c = sym (whole_elements _ _ _ _ c.if-from-ne0.false c.if-to-wide-ne0.false ∙ other_count _ _ _ c.if-n-group-ne0.false c.if-n-to.true)

pub returns : goal.returns
returns c = sym (whole_elements _ _ _ _ c.if-from-ne0.false c.if-to-wide-ne0.false ∙ same_count _ _ _ c.if-n-group-ne0.false c.if-n-to.false)
