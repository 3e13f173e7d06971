-- The symmetries by their codes. Definitions only.
use Rattle.std.specs.Prelude.{ℕ, zero, suc, None, Option, Some}
use Rattle.win_sampled.specs.declared.shape.Symmetry.TheVariants.{Periodic, Symmetric}
use Rattle.win_sampled.specs.declared.shape.Symmetry.{Symmetry}

unfoldable pub symmetry_of : ℕ → Option Symmetry
symmetry_of zero = Some Periodic
symmetry_of (suc zero) = Some Symmetric
symmetry_of (suc (suc code)) = None
