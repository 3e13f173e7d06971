-- `fmt_f32::pattern_of` meets its contract: the test tells a NaN, and any other f64 is the one with its pattern.
-- Assumes nothing.
use mathlib.Core.Path.{sym, ap, subst, ◌∙◌}
use lib.Dec.{T}
use lib.Ieee.{Float, binary32, to_bits}
use lib.Ieee.Bits.{of_bits-to_bits}
use lib.Ieee.{binary64}
use Rattle.laws.specs.Tests.{fails, ne_self, is_nan_lem}
use Rattle.fmt_f32.specs.Single.{round_to, single_of}
use Rattle.fmt_f32.proofs.narrow.pattern_of.Goals as goal

pub returns-then-x : goal.returns-then-x
unfolding to_bits round_to
returns-then-x c = rw (is_nan_lem c.args.x (sym (ne_self c.args.x) ∙ c.if-x.true))

pub float_to_bits-x : goal.float_to_bits-x
float_to_bits-x c = fails (sym (ne_self c.args.x) ∙ c.if-x.false)

pub returns : goal.returns
returns c = c.pattern_of_bits.ensures ∙ ap (λ (v : Float). to_bits binary32 (single_of v)) (of_bits-to_bits binary64 c.args.x (subst T (sym c.well_formed.0.1) tt))
