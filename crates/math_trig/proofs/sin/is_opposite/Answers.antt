-- `math_trig::sin::is_opposite` meets its contract: what is tested is what `opposite` asks. Assumes nothing.
use Rattle.std.proofs.Common.{◌≡◌, ℕ, ◌+◌, ◌%◌, sym, refl, ◌∙◌, ne_eqb}
use lib.Ieee.{Float}
use Rattle.math_trig.specs.Trig.{quadrant}
use Rattle.math_trig.specs.Opposite.{opposite_of, opposite}
use Rattle.math_trig.proofs.sin.is_opposite.Goals as goal

-- the sum of the quadrants as the code has it
sums : (x y : Float) {p q : ℕ} → p ≡ quadrant x → q ≡ quadrant y → (quadrant x + quadrant y) % 4 ≡ (p + q) % 4
sums x y e f = rw (e, f) refl

pub returns-in_default-clause-answer : goal.returns-in_default-clause-answer
unfolding opposite_of
returns-in_default-clause-answer c = sym (rw c.in_default.ensures refl)

pub returns-in_default-of-clause-answer : goal.returns-in_default-of-clause-answer
unfolding opposite_of
returns-in_default-of-clause-answer c = sym (rw (c.in-Some.ensures.inside, c.in_default-of.ensures) refl)

pub returns-then-a-b-eq0 : goal.returns-then-a-b-eq0
unfolding opposite_of
returns-then-a-b-eq0 c =
    let x = c.args.x in
    let y = c.args.y in
    let s = c.in-Some.ensures in
    let t = c.in-Some-of.ensures in
    record {
      answer = c.is_same.ensures.answer ∙ sym (rw (s.inside, t.inside, sums x y s.quarter t.quarter, c.if-a-b-eq0.true, t.left, s.left) refl);
      if_true = λ h. opposite x y s.inside t.inside s.quarter s.left t.quarter t.left c.if-a-b-eq0.true (c.is_same.ensures.if_true h);
    }

pub returns-else-a-b-eq0-clause-answer : goal.returns-else-a-b-eq0-clause-answer
unfolding opposite_of
returns-else-a-b-eq0-clause-answer c =
    let s = c.in-Some.ensures in
    let t = c.in-Some-of.ensures in
    rw (s.inside, t.inside, sums c.args.x c.args.y s.quarter t.quarter, ne_eqb _ 0 c.if-a-b-eq0.false) refl
