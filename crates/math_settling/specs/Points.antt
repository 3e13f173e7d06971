-- The series worked out at a few halves, 0 to 356.5: at each its 500th term is below a power of two that is below 1e-17
-- of the sum at the one before. Each is a declaration of its own, since a check counts the steps of one. Assumes
-- nothing.
use Rattle.std.specs.Prelude.{refl, ◌^◌}
use Rattle.std.specs.Float.Ieee.{of_int, round, mul, add, div, lt}
use Rattle.laws.specs.Binary64.{whole, fraction}
use Rattle.math_settling.specs.Between.{pair, Point, point}

pub at_0 : Point (whole 1) (fraction 1 (2 ^ 57)) (whole 0)
unfolding pair of_int round mul add div lt
at_0 = point (whole 1) (fraction 1 (2 ^ 57)) (whole 0) refl

pub at_178 : Point (fraction 1 (2 ^ 57)) (whole (2 ^ 451)) (whole 178)
unfolding pair of_int round mul add div lt
at_178 = point (fraction 1 (2 ^ 57)) (whole (2 ^ 451)) (whole 178) refl

pub at_253 : Point (whole (2 ^ 451)) (whole (2 ^ 667)) (whole 253)
unfolding pair of_int round mul add div lt
at_253 = point (whole (2 ^ 451)) (whole (2 ^ 667)) (whole 253) refl

pub at_294 : Point (whole (2 ^ 667)) (whole (2 ^ 785)) (whole 294)
unfolding pair of_int round mul add div lt
at_294 = point (whole (2 ^ 667)) (whole (2 ^ 785)) (whole 294) refl

pub at_319 : Point (whole (2 ^ 785)) (whole (2 ^ 857)) (whole 319)
unfolding pair of_int round mul add div lt
at_319 = point (whole (2 ^ 785)) (whole (2 ^ 857)) (whole 319) refl

pub at_335 : Point (whole (2 ^ 857)) (whole (2 ^ 904)) (whole 335)
unfolding pair of_int round mul add div lt
at_335 = point (whole (2 ^ 857)) (whole (2 ^ 904)) (whole 335) refl

pub at_346 : Point (whole (2 ^ 904)) (whole (2 ^ 935)) (whole 346)
unfolding pair of_int round mul add div lt
at_346 = point (whole (2 ^ 904)) (whole (2 ^ 935)) (whole 346) refl

pub at_354 : Point (whole (2 ^ 935)) (whole (2 ^ 958)) (whole 354)
unfolding pair of_int round mul add div lt
at_354 = point (whole (2 ^ 935)) (whole (2 ^ 958)) (whole 354) refl

pub at_top : Point (whole (2 ^ 958)) (whole 1) (fraction 713 2)
unfolding pair of_int round mul add div lt
at_top = point (whole (2 ^ 958)) (whole 1) (fraction 713 2) refl
