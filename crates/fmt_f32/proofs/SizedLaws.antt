-- What each path of `pattern_of_bits` and `small_pattern` answers. binary64 has 29 digits more than binary32, and 896
-- exponents more below: a field of 897 and on is a normal f32's, one of 873 and on isn't all rounded away. Assumes
-- nothing.
use mathlib.Core.Path.{◌≡◌, refl, ap, ◌∙◌}
use mathlib.Core.Bool.{Bool, cond}
use Prim.Native.Nat.{ℕ, suc, ◌+◌, ◌-◌, ◌*◌, ◌/◌, ◌%◌, ◌^◌, ◌≤◌, ◌<◌, compare}
use native.Mathlib.Nat.{le_trans, lt_of_lt_of_le, one-mul, mod-lt}
use native.Mathlib.Omega.{arith}
use lib.Dec.{lit≤}
use lib.Pow.{pow_mono, shr_lt, shl_exact}
use lib.Ieee.{binary32, binary64, hid, top, of_fields, to_bits}
use lib.Ieee.Fits.{nearest-le}
use lib.Ieee.Nearest.{closest}
use Rattle.laws.specs.Cases.{either}
use Rattle.laws.specs.Numbers.{lt_or_le}
use Rattle.laws.specs.Closest.{closest_added, closest_even}
use Rattle.laws.specs.RoundedBits.{capped}
use Rattle.fmt_f32.specs.Single.{single_of}
use Rattle.fmt_f32.specs.Sized.{signed, Narrowed}
use Rattle.fmt_f32.proofs.Narrowing.{lead_bits, none_bits, inf_bits}

-- 1 shifted left by j, in 64 bits
pub one_shifted : (j : ℕ) → j ≤ 63 → 1 * 2 ^ j % 2 ^ 64 ≡ 2 ^ j
one_shifted j h = shl_exact 1 j 64 (lit≤ tt) (omega arith) ∙ one-mul (2 ^ j)

-- the whole number nearest m / 2^29
near : (m : ℕ) → closest m 536870912 ≡ (m + 268435455 + m / 536870912 % 2) / 536870912
near m = closest_added m 268435456 (lit≤ tt)

signed_by : {a b : ℕ} → a ≡ b → (s : Bool) → cond s (top binary32) 0 + a ≡ cond s (top binary32) 0 + b
signed_by e s = ap (λ (z : ℕ). cond s (top binary32) 0 + z) e

module _ (n : ℕ) where
  -- the exponent's field, and the digits with the leading one
  abbrev pub field : ℕ
  field = n / 4503599627370496

  abbrev pub digits : ℕ
  digits = 4503599627370496 + n % 4503599627370496

  with_lead : (k j : ℕ) → 0 < field → field < 2047 → field - 897 ≡ k → 926 + k ≡ field + j → (s : Bool)
      → to_bits binary32 (single_of (signed s n)) ≡ cond s (top binary32) 0 + capped binary32 (k * hid binary32 + closest digits (2 ^ j))
  with_lead k j A B K J s =
      let e : field ≡ suc (field - 1) = omega arith in
      ap (λ (y : ℕ). to_bits binary32 (single_of (of_fields binary64 s y (n % 4503599627370496)))) e
      ∙ lead_bits binary32 binary64 29 896 refl refl s (n % 4503599627370496) (mod-lt n (lit≤ tt)) (field - 1) k j (omega arith) (omega arith) (omega arith)

  -- where 29 digits or more are rounded away, no more than 24 are left, or 2^24
  few : (j : ℕ) → 29 ≤ j → closest digits (2 ^ j) ≤ 16777216
  few j h =
      let u = 2 ^ j in
      let small : digits < 2 ^ 53 = omega arith in
      le_trans (nearest-le (digits / u) (compare (digits % u * 2) u)) (shr_lt 24 j (lt_of_lt_of_le small (pow_mono {i = 53} (omega arith))))

  -- n is its digits and an even number of 2^29 more, so it is rounded as they are
  moved : 1 ≤ field → closest n 536870912 ≡ closest digits 536870912 + 2 * ((field - 1) * 4194304)
  moved A =
      let e : n ≡ digits + 2 * ((field - 1) * 4194304) * 536870912 = omega arith in
      ap (λ (z : ℕ). closest z 536870912) e ∙ closest_even digits ((field - 1) * 4194304) 536870912 (lit≤ tt)

  pub normal : 897 ≤ field → field < 1151 → Narrowed n ((n + 268435455 + n / 536870912 % 2) / 536870912 - 7516192768)
  normal A B =
      record { is = λ s. with_lead (field - 897) 29 (omega arith) (omega arith) refl (omega arith) s ∙ signed_by (rw (← near n, moved (omega arith)) (number (closest digits 536870912) (few 29 (lit≤ tt)))) s }
    where
      number : (q : ℕ) → q ≤ 16777216 → capped binary32 ((field - 897) * 8388608 + q) ≡ q + 2 * ((field - 1) * 4194304) - 7516192768
      number q h = omega arith

  pub infinite : 1151 ≤ field → n ≤ 9218868437227405312 → Narrowed n 2139095040
  infinite A B = either (lt_or_le field 2047)
      (λ h. record { is = λ s. with_lead (field - 897) 29 (omega arith) h refl (omega arith) s ∙ signed_by (rw (near digits) (omega arith)) s })
      (λ h. record { is = λ s. let z : n % 4503599627370496 ≡ 0 = omega arith in rw z (inf_bits binary32 binary64 s field (omega arith)) })

  pub subnormal : 873 ≤ field → field < 897 → Narrowed n (closest digits (2 ^ (926 - field)))
  subnormal A B =
      let j = 926 - field in
      record { is = λ s. with_lead 0 j (omega arith) (omega arith) (omega arith) (omega arith) s ∙ signed_by (number (closest digits (2 ^ j)) (few j (omega arith))) s }
    where
      number : (q : ℕ) → q ≤ 16777216 → capped binary32 (0 * 8388608 + q) ≡ q
      number q h = omega arith

  pub none : field < 873 → Narrowed n 0
  none A = record { is = λ s. none_bits binary32 binary64 29 896 refl refl s (n % 4503599627370496) (mod-lt n (lit≤ tt)) field (omega arith) (omega arith) }
