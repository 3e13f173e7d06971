-- The sum of g 0, g 1, .., g (n - 1) in that order, from +0, each addition rounded once. Definitions only.
use Rattle.std.specs.Prelude.{ℕ, zero, suc, Float}
use Rattle.std.specs.Float.{Format}
use Rattle.std.specs.Float.Ieee.{add, of_bits}

unfoldable pub sum_to : Format → (ℕ → Float) → ℕ → Float
sum_to f g zero = of_bits f 0
sum_to f g (suc n) = add f (sum_to f g n) (g n)
