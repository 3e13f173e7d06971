-- `iir_biquad::biquad::takes_centre` meets its contract. Assumes nothing.
use mathlib.Core.Path.{sym, ◌∙◌}
use mathlib.Core.Bool.{true≢false}
use lib.Ieee.{of_bits, of_int}
use Rattle.iir_biquad.specs.Biquad.{centre_taken}
use Rattle.iir_biquad.proofs.biquad.takes_centre.Goals as goal
use Rattle.iir_biquad.proofs.biquad.takes_centre.Goals.{then-centre, else-centre}

pub returns-then-centre-rate : goal.returns-then-centre-rate
unfolding centre_taken of_int of_bits
returns-then-centre-rate c =
    let t = c.if-centre-rate.true in
    elim c.if-centre.branch [
      | then-centre w ↦ c.is_finite.ensures ∙ sym (rw (w.if-centre.true, sym w.value-is ∙ t))
      | else-centre w ↦ absurd (true≢false (sym t ∙ w.value-is ∙ w.if-centre.false))
    ]

pub returns-else-centre-rate : goal.returns-else-centre-rate
unfolding centre_taken of_int of_bits
returns-else-centre-rate c =
    let l = c.if-centre-rate.false in
    elim c.if-centre.branch [
      | then-centre w ↦ l ∙ sym (rw (w.if-centre.true, sym w.value-is ∙ l))
      | else-centre w ↦ l ∙ sym (rw w.if-centre.false)
    ]
