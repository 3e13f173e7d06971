-- The scope document's worked examples that are to be proved: one list, tested by one fact.
use Rattle.std.specs.Prelude.{ℕ, Bool, true, false, ◌&&◌, List, [], ◌∷◌, T, eqb, ℤ, pos, negsuc, Float, Err, Ok, Result}
use Rattle.std.specs.Float.{nan, binary64}
use Rattle.std.specs.Float.Ieee.{of_bits, to_bits, of_int, round, add, sub, mul, div, neg, lt, le, eq, ne, to_unsigned}
use Rattle.laws.specs.Binary64.{b64, whole, fraction, fact, over, nested}
use Rattle.laws.specs.Floor.{floor_z, ceil_z}
use Rattle.laws.specs.Sums.{sum_to}
use Rattle.math_round.specs.Whole.{as_float, floor_of, ceil_of, abs_of}
use Rattle.math_sqrt.specs.Sqrt.{sqrt_of}
use Rattle.math_trig.specs.Trig.{sin_of, cos_of}
use Rattle.math_exp.specs.Pow04.{pow04_of}
use Rattle.math_numbers.specs.Numbers.{positive}
use Rattle.math_bessel.specs.Series.{series_of}
use Rattle.fir_length.specs.Kaiser.{beta_of, order_of}
use Rattle.fir_length.specs.declared.order.Order.{Order}
use Rattle.verdict.specs.Report.{number_of}
use Rattle.verdict.specs.declared.Refusal.{Refusal}
use Rattle.verdict.specs.declared.Refusal.TheVariants as Why
use Rattle.fir_sinc.specs.Windows.{window_at, norm_of}
use Rattle.fir_lowpass.specs.Lowpass.{lowpass_of, tap_of}
use Rattle.fir_sinc.specs.declared.window.Window.TheVariants.{Hann}
use Rattle.fir_halfband.specs.Halfband.{length_taken, halfband_of}
use Rattle.fmt_q15.specs.Q15.{moved, takes, q15_of, q15_tap_of}
use Rattle.fmt_q14.specs.Q14 as Q14
use Rattle.fir_rrc.specs.Rrc.{sampled, spanned, rrc_len_of}
use Rattle.fir_halfband.specs.declared.HalfbandDesign.{HalfbandDesign}
use Rattle.fir_lowpass.specs.declared.lowpass.Lowpass.{Lowpass}

-- ---- tests
-- x has the bit pattern n
unfoldable pub is64 : Float → ℕ → Bool
is64 x n = eqb (to_bits binary64 x) n

-- a refusal with the number k alone
unfoldable pub is_plain : ℕ → Refusal → Bool
is_plain k (Why.Plain j) = eqb (number_of j) k
is_plain k (Why.Range j lo hi got) = false
is_plain k (Why.Length expected given) = false
is_plain k (Why.Cap n cap) = false
is_plain k (Why.Element i lo hi got) = false

unfoldable pub is_order : ℕ → ℕ → Result Order Refusal → Bool
is_order n beta (Ok o) = eqb o.taps n && is64 o.beta beta
is_order n beta (Err why) = false

-- a design whose first tap has the bit pattern n
unfoldable pub first_tap : ℕ → Result Lowpass Refusal → Bool
first_tap n (Ok l) = is64 (tap_of l 0) n
first_tap n (Err why) = false

unfoldable pub refuses_lowpass : ℕ → Result Lowpass Refusal → Bool
refuses_lowpass k (Ok l) = false
refuses_lowpass k (Err why) = is_plain k why

-- a half-band that is refused with the number k alone
unfoldable pub refuses_halfband : ℕ → Result HalfbandDesign Refusal → Bool
refuses_halfband k (Ok d) = false
refuses_halfband k (Err why) = is_plain k why

-- −32768 is `negsuc 32767`
unfoldable pub same_int : ℤ → ℤ → Bool
same_int (pos a) (pos b) = eqb a b
same_int (pos a) (negsuc b) = false
same_int (negsuc a) (pos b) = false
same_int (negsuc a) (negsuc b) = eqb a b

-- a value whose Q15 or Q14 number is z
unfoldable pub is_code : ℤ → Result ℤ Refusal → Bool
is_code z (Ok q) = same_int q z
is_code z (Err why) = false

-- a refusal with 11: the element's index, and the bit patterns of the smallest, largest and offered value
unfoldable pub is_element : ℕ → ℕ → ℕ → ℕ → Refusal → Bool
is_element i least most offered (Why.Plain j) = false
is_element i least most offered (Why.Range j lo hi got) = false
is_element i least most offered (Why.Length expected given) = false
is_element i least most offered (Why.Cap n cap) = false
is_element i least most offered (Why.Element j lo hi got) = eqb j i && is64 lo least && is64 hi most && is64 got offered

-- a value, element i and of the bit pattern n, that has no number between the patterns least and most
unfoldable pub is_beyond : ℕ → ℕ → ℕ → ℕ → Result ℤ Refusal → Bool
is_beyond least most i n (Ok q) = false
is_beyond least most i n (Err why) = is_element i least most n why

-- no Q15 number, and no Q14 number
unfoldable pub is_outside : ℕ → ℕ → Result ℤ Refusal → Bool
is_outside i n c = is_beyond 0xBFF0_28D5_70A3_D70A 0x3FF0_28D5_70A3_D70A i n c

unfoldable pub is_outside14 : ℕ → ℕ → Result ℤ Refusal → Bool
is_outside14 i n c = is_beyond 0xC000_0000_0000_0000 0x3FFF_FFC0_0000_0000 i n c

-- a number of taps
unfoldable pub has_taps : ℕ → Result ℕ Refusal → Bool
has_taps n (Ok m) = eqb m n
has_taps n (Err why) = false

-- none, because a value with the bit pattern n isn't between least and most: number k
unfoldable pub is_range : ℕ → ℕ → ℕ → ℕ → Refusal → Bool
is_range k least most offered (Why.Plain j) = false
is_range k least most offered (Why.Range j lo hi got) = eqb (number_of j) k && is64 lo least && is64 hi most && is64 got offered
is_range k least most offered (Why.Length expected given) = false
is_range k least most offered (Why.Cap n cap) = false
is_range k least most offered (Why.Element i lo hi got) = false

unfoldable pub refuses_length : ℕ → ℕ → ℕ → ℕ → Result ℕ Refusal → Bool
refuses_length k least most offered (Ok m) = false
refuses_length k least most offered (Err why) = is_range k least most offered why

-- ---- the list
unfoldable pub examples : List Bool
examples =
    -- sqrt(2.25) = 1.5
    is64 (sqrt_of (b64 0x4002_0000_0000_0000)) 0x3FF8_0000_0000_0000
    -- bessel_i0(0) = 1, one term
    ∷ is64 (series_of (whole 0)).sum 0x3FF0_0000_0000_0000
    ∷ eqb (series_of (whole 0)).terms 1
    -- kaiserord(8, 1, 1) = (3, 0)
    ∷ is_order 3 0 (order_of (whole 8) (whole 1) (whole 1))
    -- Hann, cutoff 0.25, rate 1: one tap is 1, two taps give 10
    ∷ first_tap 0x3FF0_0000_0000_0000 (lowpass_of (fraction 1 4) (whole 1) Hann 1)
    ∷ refuses_lowpass 10 (lowpass_of (fraction 1 4) (whole 1) Hann 2)
    -- half-band of 5: 6
    ∷ refuses_halfband 6 (halfband_of (whole 0) 5)
    -- Q15: 1 to 32767, −1 to −32768, 2^−16 to 1, −2^−16 to 0
    ∷ is_code (pos 32767) (q15_tap_of 0 (whole 1))
    ∷ is_code (negsuc 32767) (q15_tap_of 1 (neg (whole 1)))
    ∷ is_code (pos 1) (q15_tap_of 2 (fraction 1 65536))
    ∷ is_code (pos 0) (q15_tap_of 3 (neg (fraction 1 65536)))
    -- 1.01 and a NaN give 11, with their index
    ∷ is_outside 4 0x3FF0_28F5_C28F_5C29 (q15_tap_of 4 (fraction 101 100))
    ∷ is_outside 5 0x7FF8_0000_0000_0000 (q15_tap_of 5 nan)
    -- Q14: −2 − 2^−15 to −32768; 2 − 2^−15 gives 11
    ∷ is_code (negsuc 32767) (Q14.q14_tap_of 0 (neg (fraction 65537 32768)))
    ∷ is_outside14 1 0x3FFF_FFE0_0000_0000 (Q14.q14_tap_of 1 (fraction 65535 32768))
    -- rrc_len: (2, 4) = 9, (1, 4) gives 6 with 2, 1024, 1, and (1024, 32) = 32769
    ∷ has_taps 9 (rrc_len_of 2 4)
    ∷ refuses_length 6 0x4000_0000_0000_0000 0x4090_0000_0000_0000 0x3FF0_0000_0000_0000 (rrc_len_of 1 4)
    ∷ has_taps 32769 (rrc_len_of 1024 32)
    ∷ []

unfoldable pub all : List Bool → Bool
all [] = true
all (b ∷ bs) = b && all bs

pub examples_hold : T (all examples)
unfolding all examples is64 is_plain is_order first_tap refuses_lowpass refuses_halfband same_int is_code is_element is_beyond is_outside is_outside14 has_taps is_range refuses_length sqrt_of series_of order_of lowpass_of tap_of halfband_of length_taken moved takes q15_of q15_tap_of Q14.moved Q14.takes Q14.q14_of Q14.q14_tap_of sampled spanned rrc_len_of beta_of pow04_of of_bits to_bits of_int round add sub mul div neg lt le eq ne to_unsigned positive floor_of ceil_of abs_of as_float floor_z ceil_z sin_of cos_of window_at norm_of sum_to fact over nested
examples_hold = tt
