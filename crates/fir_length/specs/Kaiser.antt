-- Kaiser's formulas for the shape of his window and the number of taps (J. F. Kaiser, "Nonrecursive digital filter
-- design using the I0-sinh window function", 1974). Definitions only.
--   beta(a) = 0.1102 (a − 8.7) for a > 50;  0.5842 (a − 21)^0.4 + 0.07886 (a − 21) for 21 ≤ a ≤ 50;  0 else
--   N = ceil((A − 7.95) / (2.285 · π · width) + 1), made odd, with A = |ripple| and width = 2 · transition / rate
use Rattle.std.specs.Prelude.{ℕ, ◌+◌, ◌%◌, cond, eqb, Float, Err, Ok, Result}
use Rattle.std.specs.Float.Ieee.{lt, le, to_unsigned}
use Rattle.std.specs.Float.Ieee.Scale.{finite}
use Rattle.laws.specs.Binary64.{◌⊕◌, ◌⊖◌, ◌⊗◌, ◌⊘◌, whole, fraction, pi}
use Rattle.math_numbers.specs.Numbers.{positive}
use Rattle.math_exp.specs.Pow04.{pow04_of}
use Rattle.math_round.specs.Whole.{ceil_of, abs_of}
use Rattle.verdict.specs.declared.Refusal.TheVariants.{Plain, Range}
use Rattle.fir_length.specs.declared.order.Order.{Order}
use Rattle.verdict.specs.declared.Refusal.{Refusal}
use Rattle.verdict.specs.declared.Reason.TheVariants as Reason

-- ---- beta
unfoldable pub beta_of : Float → Float
beta_of a =
    cond (lt (whole 50) a)
    (fraction 1102 10000 ⊗ (a ⊖ fraction 87 10))
    (cond (le (whole 21) a) (fraction 5842 10000 ⊗ pow04_of (a ⊖ whole 21) ⊕ fraction 7886 100000 ⊗ (a ⊖ whole 21)) (whole 0))

-- ---- the number of taps
unfoldable pub estimate : Float → Float → Float
estimate a width = (a ⊖ fraction 795 100) ⊘ fraction 2285 1000 ⊘ (pi ⊗ width) ⊕ whole 1

-- n, or one more where n is even
unfoldable pub odd_up : ℕ → ℕ
odd_up n = cond (eqb (n % 2) 0) (n + 1) n

unfoldable pub order_of : Float → Float → Float → Result Order Refusal
unfolding estimate odd_up
order_of ripple transition rate =
    let a = abs_of ripple in
    let width = whole 2 ⊗ transition ⊘ rate in
    let num = estimate a width in
    cond (finite a)
    (cond (lt a (whole 8))
    (Err (Plain Reason.Attenuation))
    (cond (positive width)
    (cond (lt (whole 16777216) num)
    (Err (Range Reason.Transition (whole 0) rate transition))
    (Ok (record { taps = odd_up (to_unsigned 64 (ceil_of num)); beta = beta_of a })))
    (Err (Plain Reason.Transition))))
    (Err (Plain Reason.Attenuation))

-- ---- the half-band's: 3 mod 4
unfoldable pub halfband_up : ℕ → ℕ
halfband_up n = cond (eqb (n % 4) 1) (n + 2) n

abbrev pub lengthened : Result Order Refusal → Result ℕ Refusal
lengthened (Ok o) = Ok (halfband_up o.taps)
lengthened (Err why) = Err why

unfoldable pub halfband_len_of : Float → Float → Float → Result ℕ Refusal
unfolding order_of
halfband_len_of transition attenuation rate = lengthened (order_of attenuation transition rate)
