-- The bit pattern of a value: without the bit of its sign it is the pattern of its size, each place that its digits are
-- moved up counts in the exponent's field, and from 2 ^ (prec - 1) to 2 ^ prec, where the last digit is worth 1, it
-- counts the whole numbers. Assumes nothing.
use Rattle.std.specs.Prelude.{◌≡◌, Bool, true, false, cond, ℕ, zero, suc, ◌+◌, ◌-◌, ◌*◌, ◌/◌, ◌%◌, ◌^◌, ◌≤◌, ◌<◌, T, ℤ, Float}
use Rattle.std.proofs.Common.{ap, ◌∙◌, zero-add, add_assoc, mod-eq_of_lt, le_trans, le_of_eq, le_antisymm, lt_of_not-le, lt_of_lt_of_le, not-le_of_lt, mul-le-mul_right, mul-div_cancel, arith, pow-add, pow_pos, pow_mono, shl_lt}
use Rattle.std.proofs.Math.Nat.{add-mod_left}
use Rattle.std.specs.Float.{fin, Format}
use Rattle.std.specs.Float.Ieee.{prec, low, hid, top, size, to_bits, fits}
use Rattle.std.specs.Float.Ieee.Bits.{to_bits-lt}
use Rattle.std.specs.Float.Ieee.Digits.{size-lt, size-le}
use Rattle.std.specs.Float.Ieee.Fits.{two, two-le_pos}
use Rattle.std.specs.Float.Ieee.Scale.{finite}
use Rattle.laws.specs.Units.{mag, is_neg}
use Rattle.laws.specs.Values.{bits_of, to_bits_lem}

-- ---- without its sign
other_sign : (f : Format) (s t : Bool) (m : ℕ) (e : ℤ) → T (fits f (fin s m e)) → T (fits f (fin t m e))
unfolding fits
other_sign f s t zero e h = h
other_sign f s t (suc m) e h = h

pub unsigned_bits : (f : Format) (s : Bool) (m : ℕ) (e : ℤ) → T (fits f (fin s m e)) → to_bits f (fin s m e) % top f ≡ to_bits f (fin false m e)
unfolding to_bits mag
unsigned_bits f s m e t =
    let n = mag f (fin true m e) in
    go s (top f) ((size n - prec f) * hid f) (n / 2 ^ (size n - prec f)) (to_bits-lt f (fin true m e) (other_sign f s true m e t))
  where
    -- t is the sign's bit, the highest of the pattern
    go : (s : Bool) (t a b : ℕ) → t + a + b < 2 * t → (cond s t 0 + a + b) % t ≡ 0 + a + b
    go true t a b h =
        let k : a + b < t = omega arith in
        ap (λ (z : ℕ). z % t) (add_assoc t a b) ∙ add-mod_left t (a + b) ∙ mod-eq_of_lt k ∙ omega arith
    go false t a b h = mod-eq_of_lt (omega arith)

-- ---- a number n of all the format's digits, moved up by k places
pub size_is : (n i j : ℕ) → i ≡ suc j → 2 ^ j ≤ n → n < 2 ^ i → size n ≡ i
size_is n i j e h k = le_antisymm (size-le n i k) (le_trans (le_of_eq e) (lt_of_not-le (λ (g : size n ≤ j). not-le_of_lt (lt_of_lt_of_le (size-lt n) (pow_mono g)) h)))

pub shifted_size : (p n k : ℕ) → 0 < p → 2 ^ (p - 1) ≤ n → n < 2 ^ p → size (n * 2 ^ k) ≡ p + k
shifted_size p n k P h l = size_is (n * 2 ^ k) (p + k) (p - 1 + k) (one_more p k P) (le_trans (le_of_eq (pow-add 2 (p - 1) k)) (mul-le-mul_right (2 ^ k) h)) (shl_lt p k l)
  where
    one_more : (p k : ℕ) → 0 < p → p + k ≡ suc (p - 1 + k)
    one_more p k h = omega arith

pub shifted_bits : (f : Format) (s : Bool) (n k : ℕ) → hid f ≤ n → n < 2 ^ prec f → bits_of f s (n * 2 ^ k) ≡ cond s (top f) 0 + (k * hid f + n)
shifted_bits f s n k h l = go (prec f) (shifted_size (prec f) n k (two-le_pos (prec f) (two f)) h l)
  where
    back : (p k : ℕ) → p + k - p ≡ k
    back p k = omega arith

    go : (p : ℕ) → size (n * 2 ^ k) ≡ p + k → cond s (top f) 0 + (size (n * 2 ^ k) - p) * hid f + n * 2 ^ k / 2 ^ (size (n * 2 ^ k) - p) ≡ cond s (top f) 0 + (k * hid f + n)
    go p z = rw (z, back p k, mul-div_cancel n (pow_pos k)) (add_assoc (cond s (top f) 0) (k * hid f) n)

-- the pattern of a large whole number
pub large_bits : (f : Format) (x : Float) (n : ℕ) → T (finite x) → is_neg x ≡ false → mag f x ≡ n * 2 ^ low f → hid f ≤ n → n < 2 ^ prec f → to_bits f x ≡ low f * hid f + n
large_bits f x n u s e h k = to_bits_lem f x u ∙ rw (s, e) (shifted_bits f false n (low f) h k ∙ zero-add (low f * hid f + n))
