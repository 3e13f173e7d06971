-- `c_formats::convert::convert` meets its contract: what comes of the lengths, and then of the elements. Assumes
-- nothing.
use mathlib.Core.Path.{sym, ap, ◌∙◌, subst}
use Prim.Native.Nat.{ℕ, ◌/◌, ◌<◌}
use lib.ListN.{length}
use lib.Ieee.{of_int, of_bits}
use Rattle.verdict.specs.Reports.{done_report}
use Rattle.c_formats.specs.Formats.{width_of}
use Rattle.c_formats.specs.FormatLaws.{wide}
use Rattle.c_formats.specs.Conversions.{lengths_of}
use Rattle.c_formats.specs.ConversionLaws.{right_lengths, converts}
use Rattle.c_formats.proofs.convert.convert.Goals as goal

pub judge_lengths-requires-clause-wide_low : goal.judge_lengths-requires-clause-wide_low
judge_lengths-requires-clause-wide_low g c = subst (λ (w : ℕ). 0 < w) (sym c.width.ensures) (wide g.E.Element.format)

pub put-requires : goal.put-requires
put-requires g c =
    let a = c.args in
    let judged = c.judge_lengths.ensures ∙ ap (λ (w : ℕ). lengths_of w a.group (length a.src.now) (length a.out.now)) c.width.ensures in
    let both_of = right_lengths (width_of g.E.Element.format) a.group (length a.src.now) (length a.out.now) (sym judged ∙ c.in_default.is) in
    record { whole = both_of.0; room = both_of.1 }

pub returns-in-Ok : goal.returns-in-Ok
unfolding of_int of_bits
returns-in-Ok g c =
    let a = c.args in
    let judged = c.judge_lengths.ensures ∙ ap (λ (w : ℕ). lengths_of w a.group (length a.src.now) (length a.out.now)) c.width.ensures in
    converts (sym judged ∙ c.in_default.is)
    (c.accepted.ensures ∙ ap (done_report (length a.src.now / 8)) (sym c.in-Ok.is ∙ c.put.ensures.answer)) c.put.ensures.buffer
