-- What comes of loading a lock maker's own numbers for a window of cosines. Definitions only.
--   c0 to c4, of which those not given are 0. Refused: 17 a count that isn't 1 to 5, 18 a number that isn't finite or
--   whose size is above 1, 19 an exact sum that is further than 2^−40 from 1; in that order
use Rattle.std.specs.Prelude.{cond, ◌&&◌, List, [], ◌∷◌, length, nat_le, slice_index_or, Float, Err, Ok, Result}
use Rattle.std.specs.Float.Ieee.{neg}
use Rattle.laws.specs.Binary64.{whole, fraction}
use Rattle.math_unity.specs.Unity.{within, near_one, five}
use Rattle.verdict.specs.declared.Refusal.TheVariants.{Plain, Range}
use Rattle.win_shapes.specs.declared.cosines.Cosines.{Cosines}
use Rattle.verdict.specs.declared.Refusal.{Refusal}
use Rattle.verdict.specs.declared.Reason.TheVariants as Reason

-- the window of some numbers
abbrev pub cosines_of : List Float → Cosines
cosines_of cs = record { c0 = slice_index_or cs 0 (whole 0); c1 = slice_index_or cs 1 (whole 0); c2 = slice_index_or cs 2 (whole 0); c3 = slice_index_or cs 3 (whole 0); c4 = slice_index_or cs 4 (whole 0) }

-- the numbers, one after the other: the first that isn't taken is told
unfoldable pub numbers_taken : List Float → Result (Unit {0}) Refusal
numbers_taken [] = Ok tt
numbers_taken (x ∷ xs) = cond (within x) (numbers_taken xs) (Err (Range Reason.Coefficient (neg (whole 1)) (whole 1) x))

abbrev pub where_passed : Result (Unit {0}) Refusal → Result Cosines Refusal → Result Cosines Refusal
where_passed (Ok tt) l = l
where_passed (Err why) l = Err why

unfoldable pub load_of : List Float → Result Cosines Refusal
unfolding numbers_taken
load_of cs =
    cond (nat_le 1 (length cs) && nat_le (length cs) 5)
    (where_passed (numbers_taken cs)
    (cond (near_one cs)
    (Ok (cosines_of cs))
    (Err (Plain Reason.CoefficientSum))))
    (Err (Range Reason.CoefficientCount (whole 1) (whole 5) (whole (length cs))))

-- ---- the windows that are built in, as numbers to load
abbrev pub hann_numbers : List Float
hann_numbers = fraction 1 2 ∷ fraction 1 2 ∷ []

abbrev pub hamming_numbers : List Float
hamming_numbers = fraction 54 100 ∷ fraction 46 100 ∷ []

abbrev pub blackman_numbers : List Float
blackman_numbers = fraction 42 100 ∷ fraction 1 2 ∷ fraction 8 100 ∷ []

-- the five numbers of a window
abbrev pub five_in : Cosines → List Float
five_in c = five c.c0 c.c1 c.c2 c.c3 c.c4
