-- How a guess r at the rounded root is settled in 64 bits: by two numbers x and y that differ as much as m * 2 ^ 52 and
-- the square of r. These are laws of a guess: which differences show that r, r + 1 or r - 1 is the root. Assumes
-- nothing.
use Rattle.std.specs.Prelude.{◌≡◌, ℕ, ◌+◌, ◌-◌, ◌*◌, ◌/◌, ◌%◌, ◌^◌, ◌≤◌, ◌<◌}
use Rattle.std.proofs.Common.{ap, lt_irrefl, arith}
use Rattle.math_sqrt.specs.Rounded.{HalfRoot, half_root}
use Rattle.math_sqrt.specs.Square.{Squared}

-- x is as much above y as m * 2 ^ 52 above the square of r
pub record Gap (m r x y : ℕ) : Type 0 where
  pub same : x + r * r ≡ y + m * 2 ^ 52

pub gap : (m r high low : ℕ) → Squared r high low → high ≤ m / 4 + 2
    → Gap m r ((m / 4 + 2 - high) * 2 ^ 54 + m % 4 * 2 ^ 52) (low + 2 * 2 ^ 54)
gap m r high low s h = record { same = omega (arith, s.sum) }

-- 0 stands for no answer
pub unsettled : {m : ℕ} → 0 < 0 → HalfRoot m 0
unsettled h = absurd (lt_irrefl 0 h)

-- s, where it is not 0, is the rounded root of every m that x and y may stand for
pub record Chosen (r x y s : ℕ) : Type 0 where
  pub settles : (m : ℕ) → Gap m r x y → 0 < s → HalfRoot m s

module _ {r x y : ℕ} where
  pub chosen_none : Chosen r x y 0
  chosen_none = record { settles = λ m g. unsettled }

  pub chosen_same : y < x + r → x ≤ y + r → Chosen r x y r
  chosen_same l u = record { settles = λ m g h. half_root m r h (omega (arith, g.same)) (omega (arith, g.same)) }

  pub chosen_next : y + r < x → x ≤ y + 3 * r + 2 → Chosen r x y (r + 1)
  chosen_next l u = record { settles = λ m g h. half_root m (r + 1) h (omega (arith, g.same)) (omega (arith, g.same)) }

  pub chosen_last : 0 < r → x + r ≤ y → y + 2 < x + 3 * r → Chosen r x y (r - 1)
  chosen_last p l u = record { settles = λ m g h. go m g (r - 1) (omega arith) h }
    where
      go : (m : ℕ) → Gap m r x y → (t : ℕ) → r ≡ t + 1 → 0 < t → HalfRoot m t
      go m g t e h =
          let s : r * r ≡ (t + 1) * (t + 1) = ap (λ (z : ℕ). z * z) e in
          half_root m t h (omega (arith, g.same)) (omega (arith, g.same))
