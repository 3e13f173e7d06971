-- Whether every series that a Kaiser window takes has settled. Definitions only.
--   "One-tap tickets, empty windows and windows whose length divisor is 0 take no series and are unaffected."
use Rattle.std.specs.Prelude.{ℕ, Bool, ◌&&◌, ◌||◌, ◌==◌, Float}
use Rattle.laws.specs.Binary64.{whole}
use Rattle.laws.specs.Every.{every}
use Rattle.math_bessel.specs.Series.{settled}
use Rattle.win_shapes.specs.Windows.{kaiser_radicand, kaiser_argument}

-- at element i, for the divisor d
abbrev pub element_settles : Float → ℕ → ℕ → Bool
element_settles beta d i = settled (kaiser_argument beta (kaiser_radicand (whole i) (whole d)))

-- n elements for the divisor d: the series at beta, and that at each of them. The divisor is n − 1 for n taps or n
-- symmetric samples, n for n periodic ones; it is 0 where there are none of these, or one of the first.
unfoldable pub kaiser_settles : Float → ℕ → ℕ → Bool
kaiser_settles beta d n = d == 0 || (settled beta && every n (element_settles beta d))
