-- What an f64 is in each format: whether it is taken, and its bit pattern. Definitions only.
use Rattle.std.specs.Prelude.{ℕ, Bool, true, cond, List, Float, Err, Ok, Result, ℤ}
use Rattle.std.specs.Float.{binary32}
use Rattle.std.specs.Float.Ieee.{to_bits}
use Rattle.wire.specs.Bytes.{bytes_of, twos_of}
use Rattle.verdict.specs.declared.Refusal.{Refusal}
use Rattle.fmt_q15.specs.Q15 as Q15
use Rattle.fmt_q14.specs.Q14 as Q14
use Rattle.fmt_f32.specs.Single.{single_of, any_outside}
use Rattle.c_formats.specs.Format.{Format}

-- bytes an element
unfoldable pub width_of : Format → ℕ
width_of Format.Q15 = 2
width_of Format.Q14 = 2
width_of Format.Single = 4

-- every value has an f32
unfoldable pub takes_of : Format → Float → Bool
takes_of Format.Q15 = Q15.takes
takes_of Format.Q14 = Q14.takes
takes_of Format.Single = λ x. true

unfoldable pub pattern_of : Format → Float → ℕ
pattern_of Format.Q15 x = twos_of (Q15.q15_of x)
pattern_of Format.Q14 x = twos_of (Q14.q14_of x)
pattern_of Format.Single x = to_bits binary32 (single_of x)

-- what is told of x at index i where it isn't taken: the range that is
unfoldable pub outside_of : Format → ℕ → Float → Refusal
outside_of Format.Q15 = Q15.outside
outside_of Format.Q14 = Q14.outside
outside_of Format.Single = any_outside

unfoldable pub encoded_of : Format → ℕ → Float → Result ℕ Refusal
unfolding takes_of pattern_of outside_of
encoded_of f i x = cond (takes_of f x) (Ok (pattern_of f x)) (Err (outside_of f i x))

abbrev pub bytes_in : Format → Float → List ℕ
bytes_in f x = bytes_of (width_of f) (pattern_of f x)

-- a 16-bit number as its pattern
abbrev pub coded_of : Result ℤ Refusal → Result ℕ Refusal
coded_of (Ok q) = Ok (twos_of q)
coded_of (Err why) = Err why
