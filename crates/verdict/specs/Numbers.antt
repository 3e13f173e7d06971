-- The refusals' numbers by name, and the list of them all. Definitions only. A new number is a definition and a place
-- in the list here, a case of `number_of` and a place in `Decimals`, a variant in the code and a line in the header.
use Rattle.std.specs.Prelude.{ℕ, List, [], ◌∷◌}

-- ---- caused by the ticket's author
-- the rate
abbrev pub bad_rate : ℕ
bad_rate = 1

-- the cutoff, the centre or a band edge
abbrev pub bad_frequency : ℕ
bad_frequency = 2

-- the transition, or a length past 2^24 taps
abbrev pub bad_transition : ℕ
bad_transition = 3

-- the attenuation or beta
abbrev pub bad_attenuation : ℕ
bad_attenuation = 4

-- the bandwidth bt, the roll-off, the quality q or the time constant
abbrev pub bad_shape : ℕ
bad_shape = 5

-- a count: taps, order, span, samples, channels or branch
abbrev pub bad_count : ℕ
bad_count = 6

-- an unknown code, or a response that a Butterworth filter hasn't
abbrev pub bad_code : ℕ
bad_code = 7

-- how many coefficients of a window
abbrev pub bad_coefficient_count : ℕ
bad_coefficient_count = 17

-- a coefficient of a window
abbrev pub bad_coefficient : ℕ
bad_coefficient = 18

-- the sum of a window's coefficients
abbrev pub bad_coefficient_sum : ℕ
bad_coefficient_sum = 19

-- ---- caused by the host program
-- the buffer's length
abbrev pub bad_length : ℕ
bad_length = 8

-- more taps than the cap
abbrev pub too_many_taps : ℕ
too_many_taps = 9

-- ---- caused by arithmetic
-- the sum that the taps are divided by is 0 or not finite
abbrev pub bad_sum : ℕ
bad_sum = 10

-- an element that Q15 or Q14 can't take
abbrev pub bad_element : ℕ
bad_element = 11

-- a Bessel series that hasn't settled
abbrev pub not_settled : ℕ
not_settled = 16

-- ---- caused by the card
-- the bytes end inside a record
abbrev pub cut_short : ℕ
cut_short = 12

-- a kind that no ticket has
abbrev pub unknown_kind : ℕ
unknown_kind = 13

-- the length of a record, where it isn't its kind's
abbrev pub bad_record_length : ℕ
bad_record_length = 14

-- ---- all of them
abbrev pub refusals : List ℕ
refusals = bad_rate ∷ bad_frequency ∷ bad_transition ∷ bad_attenuation ∷ bad_shape ∷ bad_count ∷ bad_code ∷ bad_length ∷ too_many_taps ∷ bad_sum ∷ bad_element ∷ cut_short ∷ unknown_kind ∷ bad_record_length ∷ not_settled ∷ bad_coefficient_count ∷ bad_coefficient ∷ bad_coefficient_sum ∷ []
