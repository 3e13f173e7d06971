-- `iir_biquad::preemphasis::takes_rate` meets its contract. Assumes nothing.
use mathlib.Core.Path.{◌≡◌, refl, sym, ◌∙◌}
use mathlib.Core.Bool.{true, false, true≢false}
use lib.Ieee.{Float, nan, inf, fin, of_bits, of_int, div, lt, le, eq}
use lib.Ieee.Scale.{finite}
use Rattle.laws.specs.Binary64.{whole}
use Rattle.iir_biquad.specs.Preemphasis.{rate_taken}
use Rattle.iir_biquad.proofs.preemphasis.takes_rate.Goals as goal

-- what is not below 40000 is finite where it is below infinity
bounded : (x : Float) → le (whole 40000) x ≡ true → lt x (inf false) ≡ finite x
unfolding le lt eq of_int
bounded nan h = refl
bounded (inf true) h = absurd (true≢false (sym h))
bounded (inf false) h = refl
bounded (fin s m e) h = refl

pub returns-then-rate : goal.returns-then-rate
unfolding rate_taken of_int of_bits div
returns-then-rate c = bounded c.args.rate c.if-rate.true ∙ sym (rw c.if-rate.true)

pub returns-else-rate : goal.returns-else-rate
unfolding rate_taken of_int of_bits
returns-else-rate c = c.if-rate.false ∙ sym (rw c.if-rate.false)
