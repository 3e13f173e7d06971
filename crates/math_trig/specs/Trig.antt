-- Sine and cosine: the argument is brought to within an eighth of a turn of 0, and a nested power series gives the
-- rest. Definitions only.
--   k = floor(x · (2/π) + 0.5)        r = x − k·P1 − k·P2 − k·P3 − k·P4        z = r · r
--   S = r · (1 + z · (−1/3! + z · (1/5! − ..))), to 1/17!        C = 1 + z · (−1/2! + z · (1/4! − ..)), to 1/16!
--   by k modulo 4:  sin x is S, C, −S, −C  and  cos x is C, −S, −C, S
use Rattle.std.specs.Prelude.{ℕ, zero, suc, ◌-◌, ◌%◌, ◌^◌, List, [], ◌∷◌, cond, ℤ, pos, negsuc, Float}
use Rattle.std.specs.Float.{nan}
use Rattle.std.specs.Float.Ieee.{le, neg}
use Rattle.laws.specs.Binary64.{◌⊕◌, ◌⊖◌, ◌⊗◌, ◌⊘◌, whole, fraction, pi, over, nested}
use Rattle.laws.specs.Floor.{floor_z}
use Rattle.math_round.specs.Whole.{floor_of, abs_of}

-- ---- the reduction
-- P1 to P4: π/2 in four parts of 24 binary digits or so each, which an f64 holds exactly
unfoldable pub P1 : Float
P1 = fraction 0x192_1FB5 (2 ^ 24)

unfoldable pub P2 : Float
P2 = fraction 0x44_42D1 (2 ^ 48)

unfoldable pub P3 : Float
P3 = fraction 0x84_6989 (2 ^ 72)

unfoldable pub P4 : Float
P4 = fraction 0x8C_C517 (2 ^ 96)

-- k: the nearest whole number of quarter turns
unfoldable pub quarters : Float → Float
quarters x = floor_of (x ⊗ (whole 2 ⊘ pi) ⊕ fraction 1 2)

-- a whole number modulo 4, from 0 to 3 below zero too: −1 gives 3
abbrev pub modulo4 : ℤ → ℕ
modulo4 (pos n) = n % 4
modulo4 (negsuc n) = 3 - n % 4

unfoldable pub quadrant : Float → ℕ
unfolding quarters
quadrant x = modulo4 (floor_z (quarters x))

-- r: what is left of x after its quarter turns
unfoldable pub rest : Float → Float
unfolding P1 P2 P3 P4 quarters
rest x = let k = quarters x in x ⊖ k ⊗ P1 ⊖ k ⊗ P2 ⊖ k ⊗ P3 ⊖ k ⊗ P4

-- ---- the series
unfoldable pub sine_terms : List Float
unfolding over
sine_terms = over 1 ∷ neg (over 3) ∷ over 5 ∷ neg (over 7) ∷ over 9 ∷ neg (over 11) ∷ over 13 ∷ neg (over 15) ∷ over 17 ∷ []

unfoldable pub cosine_terms : List Float
unfolding over
cosine_terms = over 0 ∷ neg (over 2) ∷ over 4 ∷ neg (over 6) ∷ over 8 ∷ neg (over 10) ∷ over 12 ∷ neg (over 14) ∷ over 16 ∷ []

unfoldable pub sine_series : Float → Float
unfolding sine_terms nested
sine_series r = r ⊗ nested (r ⊗ r) sine_terms

unfoldable pub cosine_series : Float → Float
unfolding cosine_terms nested
cosine_series r = nested (r ⊗ r) cosine_terms

-- ---- the functions
-- by the quadrant: S, C, −S, −C
abbrev pub sine_in : ℕ → Float → Float → Float
sine_in zero s c = s
sine_in (suc zero) s c = c
sine_in (suc (suc zero)) s c = neg s
sine_in (suc (suc (suc q))) s c = neg c

-- by the quadrant: C, −S, −C, S
abbrev pub cosine_in : ℕ → Float → Float → Float
cosine_in zero s c = c
cosine_in (suc zero) s c = neg s
cosine_in (suc (suc zero)) s c = neg c
cosine_in (suc (suc (suc q))) s c = s

-- 2^25: an argument of a larger size gives NaN
abbrev pub limit : Float
limit = whole 33554432

unfoldable pub sin_of : Float → Float
unfolding quarters quadrant rest sine_series cosine_series
sin_of x = let r = rest x in cond (le (abs_of x) limit) (sine_in (quadrant x) (sine_series r) (cosine_series r)) nan

unfoldable pub cos_of : Float → Float
unfolding quarters quadrant rest sine_series cosine_series
cos_of x = let r = rest x in cond (le (abs_of x) limit) (cosine_in (quadrant x) (sine_series r) (cosine_series r)) nan
