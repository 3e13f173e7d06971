-- The prototype low-pass of a channelizer of M channels with L taps a branch; band edges in channel spacings.
-- Definitions only.
--   0 < passband < stopband ≤ 1.5;  the taps needed are ceil((A − 7.95) / (2.285 π width) + 1), width = 2 (stopband −
--   passband)/M
--   the prototype is the low-pass of M L taps with the cutoff (passband + stopband)/(2 M) of the rate and Kaiser's
--   window for A dB
use Rattle.std.specs.Prelude.{ℕ, ◌*◌, Bool, cond, ◌&&◌, ◌||◌, ◌==◌, nat_le, Float, Err, Ok, Result}
use Rattle.std.specs.Float.Ieee.{lt, le, to_unsigned}
use Rattle.std.specs.Float.Ieee.Scale.{finite}
use Rattle.laws.specs.Binary64.{◌⊕◌, ◌⊖◌, ◌⊗◌, ◌⊘◌, whole, fraction}
use Rattle.laws.specs.Floor.{upward}
use Rattle.math_numbers.specs.Numbers.{positive}
use Rattle.math_round.specs.Whole.{ceil_of}
use Rattle.fir_design.specs.Designs as Designs
use Rattle.fir_length.specs.Kaiser.{beta_of, estimate}
use Rattle.fir_lowpass.specs.Lowpass.{where_passed, lowpass_of}
use Rattle.fir_sinc.specs.declared.window.Window.TheVariants.{Kaiser}
use Rattle.fir_lowpass.specs.declared.lowpass.Lowpass.{Lowpass}
use Rattle.verdict.specs.declared.Refusal.{Refusal}
use Rattle.verdict.specs.declared.Reason.TheVariants as Reason

-- ---- the judgement
-- a power of two from 4 to 256
unfoldable pub channels_taken : ℕ → Bool
channels_taken m = m == 4 || m == 8 || m == 16 || m == 32 || m == 64 || m == 128 || m == 256

unfoldable pub branch_taken : ℕ → Bool
branch_taken l = nat_le 4 l && nat_le l 32

unfoldable pub stop_taken : Float → Float → Bool
stop_taken passband stopband = finite stopband && (lt passband stopband && le stopband (fraction 3 2))

unfoldable pub attenuation_taken : Float → Bool
attenuation_taken a = le (whole 20) a && le a (whole 120)

unfoldable pub edges_of : Float → Float → Float → Result (Unit {0}) Refusal
unfolding stop_taken attenuation_taken
edges_of passband stopband a =
    cond (positive passband)
    (cond (stop_taken passband stopband)
    (cond (attenuation_taken a)
    (Ok tt)
    (Err (Refusal.Range Reason.Attenuation (whole 20) (whole 120) a)))
    (Err (Refusal.Plain Reason.Frequency)))
    (Err (Refusal.Plain Reason.Frequency))

-- ---- the number of taps
unfoldable pub count_taken : Float → Bool
count_taken num = finite num && le num (whole 16777216)

-- for edges that were checked, by the estimate
abbrev pub taps_in : Result (Unit {0}) Refusal → Float → Result ℕ Refusal
taps_in (Ok tt) num = cond (count_taken num) (Ok (to_unsigned 64 (ceil_of num))) (Err (Refusal.Plain Reason.Transition))
taps_in (Err why) num = Err why

unfoldable pub channelizer_taps_of : ℕ → Float → Float → Float → Result ℕ Refusal
unfolding channels_taken edges_of count_taken
channelizer_taps_of m passband stopband a =
    cond (channels_taken m)
    (taps_in (edges_of passband stopband a) (estimate a (whole 2 ⊗ (stopband ⊖ passband) ⊘ whole m)))
    (Err (Refusal.Plain Reason.Count))

-- of a branch: taps / m, rounded up
abbrev pub branch_of : ℕ → Result ℕ Refusal → Result ℕ Refusal
branch_of m (Ok n) = Ok (upward n m)
branch_of m (Err why) = Err why

-- ---- the prototype
-- a ticket is accepted where the answer is `Ready`
unfoldable pub channelizer_lowpass_of : ℕ → ℕ → Float → Float → Float → Result Lowpass Refusal
unfolding channels_taken branch_taken edges_of
channelizer_lowpass_of m l passband stopband a =
    cond (channels_taken m)
    (cond (branch_taken l)
    (where_passed (edges_of passband stopband a) (lowpass_of ((passband ⊕ stopband) ⊘ (whole 2 ⊗ whole m)) (whole 1) (Kaiser (beta_of a)) (m * l)))
    (Err (Refusal.Plain Reason.Count)))
    (Err (Refusal.Plain Reason.Count))

-- for a buffer of len elements, tested last
abbrev pub fitted_of : Result Lowpass Refusal → ℕ → Result Lowpass Refusal
fitted_of d len = Designs.fitted_of (λ l. l.n) d len
