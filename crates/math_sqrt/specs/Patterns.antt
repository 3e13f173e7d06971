-- Bit patterns of f64 with a clear sign: the value that one stands for, and the pattern of a finite value above 0.
use Rattle.std.specs.Prelude.{◌≡◌, false, cond, ℕ, zero, suc, ◌+◌, ◌-◌, ◌*◌, ◌/◌, ◌%◌, ◌^◌, ◌≤◌, ◌<◌, ℤ, T, eqb, Float}
use Rattle.std.proofs.Common.{sym, ap, ◌∙◌, inl, inr, mul-one, div-one, mod-eq_of_lt, pow-suc, eq-or-lt_of_le, eq-zero-or-pos, arith, eqb→eq}
use Rattle.std.proofs.lemmas.Bool.{lt-leb}
use Rattle.std.proofs.Math.Dec.{not_T}
use Rattle.std.specs.Float.{nan, inf, fin, binary64}
use Rattle.std.specs.Float.Ieee.{to_bits, of_bits, of_fields, odd, fits, size}
use Rattle.std.specs.Float.Ieee.Bits.{cond_no, of_bits-to_bits}
use Rattle.std.specs.Float.Ieee.Digits.{size-le}
use Rattle.std.specs.Float.Ieee.Exact.{HasValue, odd_sign}
use Rattle.std.specs.Float.Ieee.Fits.{kept-lt}
use Rattle.std.specs.Float.Ieee.Scale.{finite}
use Rattle.laws.specs.Units.{mag, is_neg, mag_of_value}
use Rattle.laws.specs.Values.{bits_of, to_bits_lem, mag_lt, mag_pos}

-- x is finite, with a clear sign and a magnitude of w units
pub record Value (x : Float) (w : ℕ) : Type 0 where
  pub is_finite : T (finite x)
  pub sign : is_neg x ≡ false
  pub units : mag binary64 x ≡ w

has_value : (x : Float) (w : ℕ) → HasValue x false w (2 ^ 1074) → Value x w
has_value nan w h = absurd h
has_value (inf s) w h = absurd h
has_value (fin s m e) w h = let v = mag_of_value binary64 (fin s m e) false w h in record { is_finite = tt; sign = v.0; units = v.1 }

-- ---- the value of a pattern
-- the magnitude that an exponent's field and the digits below the leading one stand for, in units
unfoldable pub mag_of : ℕ → ℕ → ℕ
mag_of zero t = t
mag_of (suc x) t = (2 ^ 52 + t) * 2 ^ x

fields_value : (φ t : ℕ) → φ < 2047 → Value (of_fields binary64 false φ t) (mag_of φ t)
unfolding of_fields mag_of
fields_value zero t h = has_value (odd 53 false t 0 1074) t (rw (mul-one t) at (odd_sign 53 false t 0 1074))
fields_value (suc x) t h =
    let y = odd 53 false (2 ^ 52 + t) x 1074 in
    rw (cond_no (eqb (suc x) 2047) (cond (eqb t 0) (inf false) nan) y (not_T (eqb (suc x) 2047) (λ u. other (suc x) h (eqb→eq (suc x) 2047 u))))
    (has_value y ((2 ^ 52 + t) * 2 ^ x) (odd_sign 53 false (2 ^ 52 + t) x 1074))
  where
    other : (a : ℕ) → a < 2047 → a ≡ 2047 → ⊥
    other a h e = omega arith

pub bits_value : (b : ℕ) → b < 2047 * 2 ^ 52 → Value (of_bits binary64 b) (mag_of (b / 2 ^ 52) (b % 2 ^ 52))
unfolding of_bits
bits_value b h =
    let l : b < 2 ^ 63 = omega arith in
    rw (lt-leb (2 ^ 63) b l, mod-eq_of_lt l) (fields_value (b / 2 ^ 52) (b % 2 ^ 52) (omega arith))

-- a, from 2 ^ 52 to 2 ^ 53, added to the pattern whose field is k: at 2 ^ 53 the field is one more
pub made_mag : (k a : ℕ) → 2 ^ 52 ≤ a → a ≤ 2 ^ 53 → mag_of ((k * 2 ^ 52 + a) / 2 ^ 52) ((k * 2 ^ 52 + a) % 2 ^ 52) ≡ a * 2 ^ k
unfolding mag_of
made_mag k a l h = elim (eq-or-lt_of_le h) [
  | inl e ↦
      let φ : (k * 2 ^ 52 + a) / 2 ^ 52 ≡ suc (suc k) = omega arith in
      let t : (k * 2 ^ 52 + a) % 2 ^ 52 ≡ 0 = omega arith in
      let x : a * 2 ^ k ≡ 2 ^ 53 * 2 ^ k = ap (λ (z : ℕ). z * 2 ^ k) e in
      rw (φ, t) (omega (arith, pow-suc 2 k))
  | inr g ↦
      let φ : (k * 2 ^ 52 + a) / 2 ^ 52 ≡ suc k = omega arith in
      let t : (k * 2 ^ 52 + a) % 2 ^ 52 ≡ a - 2 ^ 52 = omega arith in
      rw (φ, t) (ap (λ (z : ℕ). z * 2 ^ k) (omega arith))
]

-- ---- the pattern of a finite value above 0
bits_range : (n : ℕ) → 0 < n → n < 2 ^ 2098 → (0 < bits_of binary64 false n) × (bits_of binary64 false n < 2047 * 2 ^ 52)
bits_range n h l = (
  elim (eq-zero-or-pos (size n - 53)) [ inl z ↦ rw (z, div-one n) (omega arith) | inr g ↦ omega arith ],
  go (size n) (n / 2 ^ (size n - 53)) (size-le n 2098 l) (kept-lt 53 n),
)
  where
    go : (s d : ℕ) → s ≤ 2098 → d < 2 ^ 53 → 0 + (s - 53) * 2 ^ 52 + d < 2047 * 2 ^ 52
    go s d a b = omega arith

module _ (m : ℕ) (e : ℤ) (F : T (fits binary64 (fin false (suc m) e))) where
  pub bits_in : (0 < to_bits binary64 (fin false (suc m) e)) × (to_bits binary64 (fin false (suc m) e) < 2047 * 2 ^ 52)
  bits_in =
      let x = fin false (suc m) e in
      rw (to_bits_lem binary64 x tt) (bits_range (mag binary64 x) (mag_pos binary64 false m e F) (mag_lt binary64 x F))

  pub written : mag binary64 (fin false (suc m) e) ≡ mag_of (to_bits binary64 (fin false (suc m) e) / 2 ^ 52) (to_bits binary64 (fin false (suc m) e) % 2 ^ 52)
  written =
      let x = fin false (suc m) e in
      ap (λ (z : Float). mag binary64 z) (sym (of_bits-to_bits binary64 x F)) ∙ (bits_value (to_bits binary64 x) bits_in.1).units
