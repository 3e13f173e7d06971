-- The windows that are built in are loaded by their numbers. Each is one evaluation. Assumes nothing.
use Rattle.std.specs.Prelude.{◌≡◌, List, refl, Float, Ok}
use Rattle.std.specs.Float.Ieee.{round}
use Rattle.laws.specs.Totals.{units, sum_z}
use Rattle.laws.specs.Units.{mag}
use Rattle.math_unity.specs.Unity.{within, near_one}
use Rattle.win_cosines.specs.Load.{cosines_of, numbers_taken, load_of, hann_numbers, hamming_numbers, blackman_numbers}

-- numbers that are loaded
abbrev pub Taken : List Float → Type 0
Taken cs = load_of cs ≡ Ok (cosines_of cs)

-- ---- "Hann, Hamming and Blackman loaded this way must be accepted"
pub hann : Taken hann_numbers
unfolding load_of numbers_taken within near_one sum_z units mag round
hann = refl

pub hamming : Taken hamming_numbers
unfolding load_of numbers_taken within near_one sum_z units mag round
hamming = refl

pub blackman : Taken blackman_numbers
unfolding load_of numbers_taken within near_one sum_z units mag round
blackman = refl
