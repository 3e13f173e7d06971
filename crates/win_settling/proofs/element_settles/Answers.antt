-- `win_settling::element_settles` meets its contract. Assumes nothing.
use Rattle.std.proofs.Common.{ap, ◌∙◌}
use Rattle.math_bessel.specs.Series.{settled}
use Rattle.math_bessel.specs.declared.Series.{Series}
use Rattle.win_settling.proofs.element_settles.Goals as goal

pub returns : goal.returns
returns c =
    ap (λ (s : Series). s.settled) c.bessel_i0-series.ensures
    ∙ ap settled (c.argument.ensures ∙ rw (c.radicand.ensures, c.nearest_u64_to_f64-q.ensures, c.nearest_u64_to_f64-p.ensures))
