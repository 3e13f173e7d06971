-- What `pattern_of` and `narrow` rest on: the pattern of a value is the bit of its sign and the pattern without it, and
-- what is rounded is a value of its format. Assumes nothing.
use mathlib.Core.Path.{◌≡◌, sym, ap, ◌∙◌, subst}
use mathlib.Core.Bool.{Bool, true, false, not, cond}
use Prim.Native.Nat.{ℕ, ◌+◌, ◌*◌, ◌/◌, ◌%◌, ◌≤◌, ◌<◌}
use native.Mathlib.Omega.{arith}
use borrow.Author.Tests.{lt-ltb}
use lib.Dec.{T, leb, leb→le, nleb→lt}
use lib.Ieee.{Float, nan, inf, fin, Format, binary32, binary64, up, down, of_fields, of_bits, to_bits, nan_bits, fits, is_nan}
use lib.Ieee.Bits.{of_bits-to_bits, to_bits-lt, nan_bits_is, nan_bits_above}
use lib.Ieee.Fits.{nan-fits, inf-fits, round-fits}
use Rattle.laws.specs.RoundedBits.{round_number}
use Rattle.laws.specs.Tests.{is_nan_lem}
use Rattle.fmt_f32.specs.Single.{round_to, single_of}
use Rattle.fmt_f32.specs.Sized.{signed, Narrowed}

-- ---- what is rounded
round_to_fits : (f : Format) (x : Float) → T (fits f (round_to f x))
unfolding round_to
round_to_fits f nan = nan-fits f
round_to_fits f (inf s) = inf-fits f s
round_to_fits f (fin s m e) = round-fits f s (m * up e) (down e)

round_to_number : (f : Format) (x : Float) → T (not (is_nan x)) → T (not (is_nan (round_to f x)))
unfolding round_to is_nan
round_to_number f nan h = h
round_to_number f (inf s) h = tt
round_to_number f (fin s m e) h = round_number f s (m * up e) (down e)

module _ (f : Format) (x : Float) where
  pub bits_back : of_bits f (to_bits f (round_to f x)) ≡ round_to f x
  bits_back = of_bits-to_bits f (round_to f x) (round_to_fits f x)

  pub bits_number : T (not (is_nan x)) → T (not (nan_bits f (to_bits f (round_to f x))))
  bits_number h = subst (λ (b : Bool). T (not b)) (sym (nan_bits_is f (to_bits f (round_to f x)) ∙ ap is_nan bits_back)) (round_to_number f x h)

pub narrowed_lt : {n r : ℕ} → Narrowed n r → r < 2147483648
narrowed_lt {n} h = omega (arith, h.is true, to_bits-lt binary32 (single_of (signed true n)) (round_to_fits binary32 (signed true n)))

-- ---- the f64 with the pattern b
module _ (b : ℕ) where
  pub of_nan : 9218868437227405312 < b % 9223372036854775808 → 2143289344 ≡ to_bits binary32 (single_of (of_bits binary64 b))
  unfolding to_bits round_to
  of_nan h = rw (is_nan_lem (of_bits binary64 b) (sym (nan_bits_is binary64 b) ∙ nan_bits_above binary64 b ∙ lt-ltb _ _ h))

  read : of_bits binary64 b ≡ signed (leb 9223372036854775808 b) (b % 9223372036854775808)
  unfolding of_bits
  read =
      let e : b % 4503599627370496 ≡ b % 9223372036854775808 % 4503599627370496 = omega arith in
      ap (λ (t : ℕ). of_fields binary64 (leb 9223372036854775808 b) (b % 9223372036854775808 / 4503599627370496) t) e

  module _ (l : b < 18446744073709551616) where
    sign : cond (leb 9223372036854775808 b) 2147483648 0 ≡ b / 9223372036854775808 * 2147483648
    sign = go (leb 9223372036854775808 b) (leb→le 9223372036854775808 b) (nleb→lt 9223372036854775808 b)
      where
        go : (u : Bool) → (T u → 9223372036854775808 ≤ b) → (T (not u) → b < 9223372036854775808) → cond u 2147483648 0 ≡ b / 9223372036854775808 * 2147483648
        go true h k = let i = h tt in omega arith
        go false h k = let i = k tt in omega arith

    -- the bit of the sign, and what the rest narrows to
    pub joined : (r : ℕ) → Narrowed (b % 9223372036854775808) r → b / 9223372036854775808 * 2147483648 + r ≡ to_bits binary32 (single_of (of_bits binary64 b))
    joined r h =
        ap (λ (z : ℕ). z + r) (sym sign) ∙ sym (h.is (leb 9223372036854775808 b)) ∙ ap (λ (v : Float). to_bits binary32 (single_of v)) (sym read)
