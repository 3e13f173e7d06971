-- Numbers as bytes of a buffer, the lowest first. Definitions only.
use Rattle.std.specs.Prelude.{ℕ, zero, suc, ◌+◌, ◌-◌, ◌*◌, ◌/◌, ◌%◌, List, [], ◌∷◌, cond, leb, ltb, length, take, drop, ℤ, pos, negsuc, Float}
use Rattle.std.proofs.lemmas.List.Edits.{sets}
use Rattle.std.specs.Float.{binary32, binary64}
use Rattle.std.specs.Float.Ieee.{to_bits, of_bits}
use Rattle.laws.specs.Filled.{tabulate}

-- the w lowest bytes of n
unfoldable pub bytes_of : ℕ → ℕ → List ℕ
bytes_of zero n = []
bytes_of (suc w) n = n % 256 ∷ bytes_of w (n / 256)

-- the eight bytes of an f64; a NaN has the pattern 7FF8000000000000
abbrev pub float_bytes : Float → List ℕ
float_bytes x = bytes_of 8 (to_bits binary64 x)

-- the 16 bits of a signed number as a number: `negsuc n` is −(n + 1), which stands for 65536 less that
abbrev pub twos_of : ℤ → ℕ
twos_of (pos n) = n
twos_of (negsuc n) = 65535 - n

-- the two bytes of a Q15 number
abbrev pub code_bytes : ℤ → List ℕ
code_bytes q = bytes_of 2 (twos_of q)

-- the buffer with the w lowest bytes of n from `at` on, as it is where they don't fit
unfoldable pub put_of : ℕ → List ℕ → ℕ → ℕ → List ℕ
put_of w d at n = cond (leb (at + w) (length d)) (sets d at (bytes_of w n)) d

-- ---- what bytes hold, read the lowest first
-- a number
unfoldable pub number_of : List ℕ → ℕ
number_of [] = 0
number_of (b ∷ bs) = b + 256 * number_of bs

-- eight bytes as a number
abbrev pub joined : ℕ → ℕ → ℕ → ℕ → ℕ → ℕ → ℕ → ℕ → ℕ
joined a b c d e f g h = a + 256 * b + 65536 * c + 16777216 * d + 4294967296 * (e + 256 * f + 65536 * g + 16777216 * h)

-- the f64 in eight bytes, and the n of a buffer
abbrev pub float_of : List ℕ → Float
float_of bs = of_bits binary64 (number_of bs)

abbrev pub float_at : List ℕ → ℕ → Float
float_at d at = float_of (take 8 (drop at d))

abbrev pub floats_in : ℕ → List ℕ → List Float
floats_in n d = tabulate n (λ i. float_at d (8 * i))

-- the signed number in 16 bits: from 32768 on n stands for n − 65536, `negsuc k` being −(k + 1)
abbrev pub signed_of : ℕ → ℤ
signed_of n = cond (ltb n 32768) (pos n) (negsuc (65535 - n))

-- the one in two bytes, and the n of a buffer
abbrev pub code_of : List ℕ → ℤ
code_of bs = signed_of (number_of bs)

abbrev pub code_at : List ℕ → ℕ → ℤ
code_at d at = code_of (take 2 (drop at d))

abbrev pub codes_in : ℕ → List ℕ → List ℤ
codes_in n d = tabulate n (λ i. code_at d (2 * i))

-- ---- the same of an f32, four bytes
-- a NaN has the pattern 7FC00000
abbrev pub single_bytes : Float → List ℕ
single_bytes x = bytes_of 4 (to_bits binary32 x)

abbrev pub joined_four : ℕ → ℕ → ℕ → ℕ → ℕ
joined_four a b c d = a + 256 * b + 65536 * c + 16777216 * d

abbrev pub single_at : List ℕ → ℕ → Float
single_at d at = of_bits binary32 (number_of (take 4 (drop at d)))

abbrev pub singles_in : ℕ → List ℕ → List Float
singles_in n d = tabulate n (λ i. single_at d (4 * i))
