-- `c_math::shape::pel_bessel_i0` meets its contract, as the series has settled or not. Assumes nothing.
use mathlib.Core.Path.{◌≡◌, sym, ap, ◌∙◌}
use mathlib.Core.Bool.{true, false}
use lib.Ieee.{of_bits, of_int}
use Rattle.verdict.specs.Report.{accepted_of}
use Rattle.math_bessel.specs.declared.Series.{Series}
use Rattle.c_math.specs.Reports.{unsettled_of, series_report}
use Rattle.c_math.proofs.shape.pel_bessel_i0.Goals as goal

settled_told : (s : Series) → s.settled ≡ true → accepted_of s.terms s.sum ≡ series_report s
settled_told s e = sym (rw e)

unsettled_told : (s : Series) → s.settled ≡ false → unsettled_of s.terms s.sum ≡ series_report s
unsettled_told s e = sym (rw e)

pub returns-then-s : goal.returns-then-s
returns-then-s c = c.accepted-told.ensures ∙ settled_told c.bessel_i0-s.result c.if-s.true ∙ ap series_report c.bessel_i0-s.ensures

pub returns : goal.returns
unfolding accepted_of of_int of_bits
returns c = rw (c.from.ensures, c.accepted-told.ensures) (unsettled_told c.bessel_i0-s.result c.if-s.false ∙ ap series_report c.bessel_i0-s.ensures)
