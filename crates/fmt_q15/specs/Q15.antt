-- Q15: a value as a whole number of 1/32768 in 16 bits. Definitions only.
--   q = floor(32768 t + 0.5), saturated to −32768 .. 32767; sizes up to (1 − 1/32768) · 1.01 are taken
use Rattle.std.specs.Prelude.{ℕ, min, Bool, true, false, cond, leb, ℤ, pos, negsuc, Float, Err, Ok, Result}
use Rattle.std.specs.Float.{nan, inf, fin}
use Rattle.std.specs.Float.Ieee.{neg, le}
use Rattle.laws.specs.Binary64.{◌⊕◌, ◌⊖◌, ◌⊗◌, ◌⊘◌, whole, fraction}
use Rattle.laws.specs.Floor.{floor_z}
use Rattle.verdict.specs.declared.Refusal.{Refusal}
use Rattle.verdict.specs.declared.Refusal.TheVariants.{Element}
use Rattle.math_round.specs.Whole.{abs_of}

-- ---- one value
-- 32768 t + 0.5, whose floor is q
unfoldable pub moved : Float → Float
moved t = t ⊗ whole 32768 ⊕ fraction 1 2

-- held to 16 bits: `negsuc n` is −(n + 1)
abbrev pub saturated : ℤ → ℤ
saturated (pos n) = pos (min n 32767)
saturated (negsuc n) = negsuc (min n 32767)

-- whether it lies in −32768 to 32767; a tap "saturates" if its floor does not
abbrev pub in16 : ℤ → Bool
in16 (pos n) = leb n 32767
in16 (negsuc n) = leb n 32767

-- of the moved value: a NaN gives 0, an infinity an end of the range
abbrev pub code_in : Float → ℤ
code_in nan = pos 0
code_in (inf false) = pos 32767
code_in (inf true) = negsuc 32767
code_in (fin s m e) = saturated (floor_z (fin s m e))

unfoldable pub q15_of : Float → ℤ
unfolding moved
q15_of t = code_in (moved t)

-- ---- one tap
abbrev pub limit : Float
limit = (whole 1 ⊖ whole 1 ⊘ whole 32768) ⊗ fraction 101 100

-- a NaN is not taken
unfoldable pub takes : Float → Bool
takes t = le (abs_of t) limit

abbrev pub outside : ℕ → Float → Refusal
outside i t = Element i (neg limit) limit t

unfoldable pub q15_tap_of : ℕ → Float → Result ℤ Refusal
unfolding takes
q15_tap_of i t = cond (takes t) (Ok (q15_of t)) (Err (outside i t))
