-- The exponential of a number from −700 to 0: a power of two, and a nested power series for the rest. Definitions only.
--   k = floor(x · (1/ln 2) + 0.5)        r = x − k·L1 − k·L2
--   exp x = (1 + r · (1 + r · (1/2! + r · (1/3! + ..))), to r^13/13!) · 2^k;   0 below −700;   NaN above 0
use Rattle.std.specs.Prelude.{◌^◌, false, cond, List, [], ◌∷◌, ℤ, Float}
use Rattle.std.specs.Float.{nan, fin}
use Rattle.std.specs.Float.Ieee.{lt, le, neg}
use Rattle.laws.specs.Binary64.{◌⊕◌, ◌⊖◌, ◌⊗◌, ◌⊘◌, whole, fraction, ln2, over, nested}
use Rattle.laws.specs.Floor.{floor_z}
use Rattle.math_round.specs.Whole.{floor_of}

-- L1 and L2: ln 2 in two parts, which an f64 holds exactly
unfoldable pub L1 : Float
L1 = fraction 0xB172_17F7 (2 ^ 32)

unfoldable pub L2 : Float
L2 = fraction 0xD_1CF7_9ABC_9E3B (2 ^ 84)

-- k: the nearest whole number of doublings
unfoldable pub doublings : Float → Float
doublings x = floor_of (x ⊗ (whole 1 ⊘ ln2) ⊕ fraction 1 2)

-- r: what is left of x after its doublings
unfoldable pub rest : Float → Float
unfolding L1 L2 doublings
rest x = let k = doublings x in x ⊖ k ⊗ L1 ⊖ k ⊗ L2

unfoldable pub exp_terms : List Float
unfolding over
exp_terms = over 0 ∷ over 1 ∷ over 2 ∷ over 3 ∷ over 4 ∷ over 5 ∷ over 6 ∷ over 7 ∷ over 8 ∷ over 9 ∷ over 10 ∷ over 11 ∷ over 12 ∷ over 13 ∷ []

unfoldable pub exp_series : Float → Float
unfolding exp_terms nested
exp_series r = nested r exp_terms

-- 2^k
abbrev pub two_to : ℤ → Float
two_to k = fin false 1 k

unfoldable pub exp_of : Float → Float
unfolding doublings rest exp_series
exp_of x = cond (lt x (neg (whole 700))) (whole 0) (cond (le x (whole 0)) (exp_series (rest x) ⊗ two_to (floor_z (doublings x))) nan)
