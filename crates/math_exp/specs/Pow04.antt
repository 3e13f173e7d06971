-- v to the power 0.4, for v from 0 to 29: the fifth root of v · v, by Newton's steps from above. Definitions only.
--   w = v · v,  y = 4;  a step makes (4·y + w / ((y·y)·(y·y))) / 5.
--   The first step that isn't smaller ends it with the old y; at most 100 steps, after which the last y stands.
use Rattle.std.specs.Prelude.{ℕ, zero, suc, Bool, true, false, cond, ◌&&◌, Float}
use Rattle.std.specs.Float.{nan}
use Rattle.std.specs.Float.Ieee.{lt, le, eq}
use Rattle.laws.specs.Binary64.{◌⊕◌, ◌⊗◌, ◌⊘◌, whole}

unfoldable pub step : Float → Float → Float
step w y = (whole 4 ⊗ y ⊕ w ⊘ ((y ⊗ y) ⊗ (y ⊗ y))) ⊘ whole 5

-- At most d more steps from y; n is the next one, and b whether it is smaller.
unfoldable pub steps_from : ℕ → Bool → Float → Float → Float → Float
steps_from zero b w y n = y
steps_from (suc d) false w y n = y
steps_from (suc d) true w y n = steps_from d (lt (step w n) n) w n (step w n)

unfoldable pub steps : ℕ → Float → Float → Float
steps d w y = steps_from d (lt (step w y) y) w y (step w y)

-- 0 gives 0, of either sign
unfoldable pub pow04_of : Float → Float
unfolding steps
pow04_of v = cond (le (whole 0) v && le v (whole 29)) (cond (eq v (whole 0)) (whole 0) (steps 100 (v ⊗ v) (whole 4))) nan
