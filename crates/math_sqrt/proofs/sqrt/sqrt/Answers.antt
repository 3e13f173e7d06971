-- `math_sqrt::sqrt::sqrt` meets its contract: std's root is this one, and what has none is a NaN. Assumes nothing.
use Rattle.std.proofs.Common.{◌*◌, lit<, arith, eq-eqb, ◌≡◌, true, false, T, zero, suc, pos, sym, refl, subst, ◌∙◌, true≢false}
use lib.Ieee.{Float, nan, inf, fin, of_bits, div, le, lt, eq, up, down}
use lib.Ieee.Fits.{down_pos}
use lib.Ieee.Order.{le_of_values}
use Rattle.math_sqrt.specs.Sqrt.{sqrt_of}
use Rattle.math_sqrt.proofs.StdRoot.{sqrt_is}
use Rattle.math_sqrt.proofs.sqrt.sqrt.Goals as goal

-- std says what its root gives, and the law that this is the nearest f64:
-- so both are cited one behind the other, and nothing else of the step
pub returns-then-x : goal.returns-then-x
returns-then-x c = c.sqrt.ensures.value ∙ sqrt_is c.args.x (subst T (sym c.well_formed.0.1) tt)

-- what is not from 0 up is a NaN, or below 0 and no zero
none : (x : Float) → le (fin false 0 (pos 0)) x ≡ false → nan ≡ sqrt_of x
unfolding sqrt_of le lt eq
none nan a = refl
none (inf true) a = refl
none (inf false) a = absurd (true≢false a)
none (fin false m e) a = absurd (subst T a (le_of_values (fin false 0 (pos 0)) (fin false m e) 0 1 (m * up e) (down e) (lit< tt) (down_pos e) (refl, refl) (refl, refl) (omega arith)))
none (fin true zero e) a = absurd (true≢false (sym (rw (eq-eqb (0 * 1 * down e) (0 * up e * 1) (omega arith), eq-eqb (0 * 1 * down e) 0 (omega arith)) refl) ∙ a))
none (fin true (suc m) e) a = refl

pub returns-else-x : goal.returns-else-x
unfolding of_bits div
returns-else-x c = none c.args.x c.if-x.false
