-- What each path of `fabs` rests on: the pattern of a value without the bit of its sign is the pattern of its size.
-- Assumes nothing.
use Rattle.std.proofs.Common.{◌≡◌, ◌%◌, ◌^◌, Bool, true, false, not, T, sym, refl, ap, ◌∙◌, subst}
use lib.Ieee.{Float, nan, inf, fin, binary64, of_bits, to_bits, fits, is_nan, nan_bits}
use lib.Ieee.Bits.{of_bits-to_bits, nan_bits_is}
use Rattle.laws.specs.Patterns.{unsigned_bits}
use Rattle.laws.specs.Tests.{is_nan_lem, fails}
use Rattle.math_round.specs.Whole.{abs_of}
use Rattle.math_round.specs.Laws.{abs_fits}

-- ---- at a NaN
pub at_nan : (x : Float) → is_nan x ≡ true → x ≡ abs_of x
unfolding abs_of
at_nan x a = let e = is_nan_lem x a in e ∙ ap abs_of (sym e)

-- ---- the pattern without its sign, made a value again
without : (x : Float) → T (fits binary64 x) → T (not (is_nan x)) → to_bits binary64 x % 2 ^ 63 ≡ to_bits binary64 (abs_of x)
unfolding abs_of is_nan
without nan t a = absurd a
without (inf true) t a = unfold to_bits in refl
without (inf false) t a = unfold to_bits in refl
without (fin s m e) t a = unsigned_bits binary64 s m e t

pub without_sign : (x : Float) → T (fits binary64 x) → is_nan x ≡ false → of_bits binary64 (to_bits binary64 x % 2 ^ 63) ≡ abs_of x
without_sign x t a = ap (of_bits binary64) (without x t (fails a)) ∙ of_bits-to_bits binary64 (abs_of x) (abs_fits x t)

abs_number : (x : Float) → T (not (is_nan x)) → T (not (is_nan (abs_of x)))
unfolding abs_of is_nan
abs_number nan a = a
abs_number (inf s) a = tt
abs_number (fin s m e) a = tt

pub made : (x : Float) → T (fits binary64 x) → is_nan x ≡ false → T (not (nan_bits binary64 (to_bits binary64 x % 2 ^ 63)))
made x t a = subst (λ (b : Bool). T (not b)) (sym (nan_bits_is binary64 (to_bits binary64 x % 2 ^ 63) ∙ ap is_nan (without_sign x t a))) (abs_number x (fails a))
