-- `win_cosines::judge` meets its contract, a number at a time. Assumes nothing.
use Rattle.std.proofs.Common.{sym, ◌∙◌}
use Rattle.win_cosines.specs.Load.{numbers_taken}
use Rattle.win_cosines.proofs.judge.Goals as goal

pub returns-then-not-is_within : goal.returns-then-not-is_within
unfolding numbers_taken
returns-then-not-is_within c = c.outside.ensures ∙ sym (rw (sym c.is_within.ensures ∙ c.if-not-is_within.true))

pub returns-then-not-is_within-2 : goal.returns-then-not-is_within-2
unfolding numbers_taken
returns-then-not-is_within-2 c =
    c.outside-then-not-is_within-2.ensures ∙ sym (rw (
      sym c.is_within.ensures ∙ c.if-not-is_within.false,
      sym c.is_within-2.ensures ∙ c.if-not-is_within-2.true,
    ))

pub returns-then-not-is_within-3 : goal.returns-then-not-is_within-3
unfolding numbers_taken
returns-then-not-is_within-3 c =
    c.outside-then-not-is_within-3.ensures ∙ sym (rw (
      sym c.is_within.ensures ∙ c.if-not-is_within.false,
      sym c.is_within-2.ensures ∙ c.if-not-is_within-2.false,
      sym c.is_within-3.ensures ∙ c.if-not-is_within-3.true,
    ))

pub returns-then-not-is_within-4 : goal.returns-then-not-is_within-4
unfolding numbers_taken
returns-then-not-is_within-4 c =
    c.outside-then-not-is_within-4.ensures ∙ sym (rw (
      sym c.is_within.ensures ∙ c.if-not-is_within.false,
      sym c.is_within-2.ensures ∙ c.if-not-is_within-2.false,
      sym c.is_within-3.ensures ∙ c.if-not-is_within-3.false,
      sym c.is_within-4.ensures ∙ c.if-not-is_within-4.true,
    ))

pub returns-then-not-is_within-5 : goal.returns-then-not-is_within-5
unfolding numbers_taken
returns-then-not-is_within-5 c =
    c.outside-then-not-is_within-5.ensures ∙ sym (rw (
      sym c.is_within.ensures ∙ c.if-not-is_within.false,
      sym c.is_within-2.ensures ∙ c.if-not-is_within-2.false,
      sym c.is_within-3.ensures ∙ c.if-not-is_within-3.false,
      sym c.is_within-4.ensures ∙ c.if-not-is_within-4.false,
      sym c.is_within-5.ensures ∙ c.if-not-is_within-5.true,
    ))

pub returns : goal.returns
unfolding numbers_taken
returns c =
    sym (rw (
      sym c.is_within.ensures ∙ c.if-not-is_within.false,
      sym c.is_within-2.ensures ∙ c.if-not-is_within-2.false,
      sym c.is_within-3.ensures ∙ c.if-not-is_within-3.false,
      sym c.is_within-4.ensures ∙ c.if-not-is_within-4.false,
      sym c.is_within-5.ensures ∙ c.if-not-is_within-5.false,
    ))
