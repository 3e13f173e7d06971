-- Q2.14: a coefficient as a whole number of 1/16384 in 16 bits. Definitions only.
--   q = floor(16384 x + 0.5), taken where that lies in −32768 to 32767; nothing saturates
use Rattle.std.specs.Prelude.{ℕ, Bool, cond, ◌&&◌, ℤ, Float, Err, Ok, Result}
use Rattle.std.specs.Float.Ieee.{neg}
use Rattle.std.specs.Float.Ieee.Scale.{finite}
use Rattle.laws.specs.Binary64.{◌⊕◌, ◌⊖◌, ◌⊗◌, ◌⊘◌, whole, fraction}
use Rattle.laws.specs.Floor.{floor_z}
use Rattle.verdict.specs.declared.Refusal.{Refusal}
use Rattle.verdict.specs.declared.Refusal.TheVariants.{Element}
use Rattle.fmt_q15.specs.Q15.{in16}

-- ---- one number
unfoldable pub moved : Float → Float
moved x = x ⊗ whole 16384 ⊕ fraction 1 2

unfoldable pub q14_of : Float → ℤ
unfolding moved
q14_of x = floor_z (moved x)

-- neither a NaN nor an infinity is taken
unfoldable pub takes : Float → Bool
unfolding moved
takes x = finite (moved x) && in16 (floor_z (moved x))

abbrev pub outside : ℕ → Float → Refusal
outside i x = Element i (neg (whole 2)) (whole 2 ⊖ whole 1 ⊘ whole 16384) x

unfoldable pub q14_tap_of : ℕ → Float → Result ℤ Refusal
unfolding takes q14_of
q14_tap_of i x = cond (takes x) (Ok (q14_of x)) (Err (outside i x))
