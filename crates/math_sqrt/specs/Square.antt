-- A square in two parts that fit a u64 each. These are laws of whole numbers below 2 ^ 53: what their halves multiply to,
-- and how the products make the square. Assumes nothing.
use Rattle.std.specs.Prelude.{◌≡◌, ℕ, ◌+◌, ◌*◌, ◌/◌, ◌%◌, ◌^◌, ◌<◌}
use Rattle.std.proofs.Common.{ap, mul-le-mul, arith}

-- high * 2 ^ 54 + low is the square of r
pub record Squared (r high low : ℕ) : Type 0 where
  pub sum : high * 2 ^ 54 + low ≡ r * r
  pub high_most : high < 2 ^ 53
  pub low_most : low < 2 ^ 55

-- the products of the upper digits of a number below 2 ^ 53 and its 27 lower ones
pub record Halves (a b : ℕ) : Type 0 where
  pub upper : a * a < 2 ^ 52
  pub both : a * b < 2 ^ 53
  pub lower : b * b < 2 ^ 54

pub halves : (r : ℕ) → r < 2 ^ 53 → Halves (r / 2 ^ 27) (r % 2 ^ 27)
halves r h = go (r / 2 ^ 27) (r % 2 ^ 27) (omega arith) (omega arith)
  where
    go : (a b : ℕ) → a < 2 ^ 26 → b < 2 ^ 27 → Halves a b
    go a b k l = record { upper = omega (arith, mul-le-mul k k); both = omega (arith, mul-le-mul k l); lower = omega (arith, mul-le-mul l l) }

pub squared : (r : ℕ) → r < 2 ^ 53
    → let a = r / 2 ^ 27 in let b = r % 2 ^ 27 in Squared r (a * a + a * b / 2 ^ 26) (a * b % 2 ^ 26 * 2 ^ 28 + b * b)
squared r h = go (r / 2 ^ 27) (r % 2 ^ 27) (halves r h) (omega arith)
  where
    go : (a b : ℕ) → Halves a b → r ≡ a * 2 ^ 27 + b → Squared r (a * a + a * b / 2 ^ 26) (a * b % 2 ^ 26 * 2 ^ 28 + b * b)
    go a b k e =
        let x : r * r ≡ (a * 2 ^ 27 + b) * (a * 2 ^ 27 + b) = ap (λ (z : ℕ). z * z) e in
        record { sum = omega arith; high_most = omega arith; low_most = omega arith }
