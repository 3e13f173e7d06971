-- `fir_halfband::is_zero_at` meets its contract: what the code subtracts is the distance. Assumes nothing.
use mathlib.Core.Path.{◌≡◌, sym, ap, ◌∙◌}
use mathlib.Core.Bool.{not}
use Prim.Native.Nat.{ℕ, ◌%◌}
use native.Mathlib.Omega.{arith}
use borrow.Author.Tests.{eq-eqb, ne_eqb}
use lib.Dec.{eqb}
use Rattle.fir_halfband.specs.Halfband.{distance, vanishes}
use Rattle.fir_halfband.proofs.is_zero_at.Goals as goal
use Rattle.fir_halfband.proofs.is_zero_at.Goals.{else-k-m, then-k-m}

pub returns-then-d-ne0 : goal.returns-then-d-ne0
unfolding vanishes
returns-then-d-ne0 c =
    let is_distance : c.if-k-m.d ≡ distance c.args.n c.args.k = elim c.if-k-m.branch [ then-k-m w ↦ let h = w.if-k-m.true in w.d-is ∙ omega arith | else-k-m w ↦ let h = w.if-k-m.false in w.d-is ∙ omega arith ] in
    let e = is_distance in
    ap (λ (z : ℕ). eqb (z % 2) 0) e ∙ sym (rw (ne_eqb (distance c.args.n c.args.k) 0 (λ q. c.if-d-ne0.true (e ∙ q))))

pub returns-else-d-ne0 : goal.returns-else-d-ne0
unfolding vanishes
returns-else-d-ne0 c =
    let is_distance : c.if-k-m.d ≡ distance c.args.n c.args.k = elim c.if-k-m.branch [ then-k-m w ↦ let h = w.if-k-m.true in w.d-is ∙ omega arith | else-k-m w ↦ let h = w.if-k-m.false in w.d-is ∙ omega arith ] in
    let e = is_distance in
    let q = eq-eqb (distance c.args.n c.args.k) 0 (sym e ∙ c.if-d-ne0.false) in
    ap (λ (z : ℕ). not (eqb z 0)) e ∙ rw q
