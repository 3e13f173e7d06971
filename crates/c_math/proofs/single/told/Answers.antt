-- `c_math::single::told` meets its contract: the number that it is told of has 16 bits. Assumes nothing.
use Rattle.std.proofs.Common.{◌≡◌, sym, ap, ◌∙◌, rules, w16}
use mir.Val.{to_z, of_z}
use lib.IntN.{ℤ}
use lib.Ieee.{binary64, of_int}
use Rattle.verdict.specs.Report.{accepted_of}
use Rattle.c_math.specs.Reports.{coded_report}
use Rattle.c_math.proofs.single.told.Goals as goal

pub returns-in-Ok : goal.returns-in-Ok
returns-in-Ok c =
    let held : to_z w16 (of_z w16 c.in-Ok.q) ≡ c.in-Ok.q = search rules in
    c.accepted.ensures ∙ ap (λ (z : ℤ). accepted_of 0 (of_int binary64 z)) held ∙ ap coded_report (sym c.in-Ok.is)

pub returns-in-Err : goal.returns-in-Err
returns-in-Err c = c.from.ensures ∙ ap coded_report (sym c.in-Err.is)
