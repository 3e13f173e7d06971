-- The whole numbers next to a value: the greatest that is not above it, and the least that is not below it. Assumes
-- nothing.
use Rattle.std.specs.Prelude.{◌≡◌, refl, ℕ, zero, suc, ◌+◌, ◌-◌, ◌*◌, ◌/◌, ◌%◌, ◌^◌, ◌≤◌, ◌<◌, Bool, true, false, T, ℤ, pos, negsuc, neg_ℤ, Float}
use Rattle.std.proofs.Common.{sym, le_trans, le_of_eq, lt_of_mul-lt-mul_right, lt_of_le_of_lt, lt_of_lt_of_le, mul-lt-mul_of_pos_right, mul-le-mul_right, le_of_mul-le-mul_right, mul_right_comm, div-add-mod', mod-lt, arith, pow_pos}
use Rattle.std.specs.Float.{nan, inf, fin, Format}
use Rattle.std.specs.Float.Ieee.{low, up, down, fits}
use Rattle.std.specs.Float.Ieee.Fits.{down_pos}
use Rattle.std.specs.Float.Ieee.Scale.{finite}
use Rattle.laws.specs.Units.{mag, plus, less, mag_cross}

-- n / d, rounded up
abbrev pub upward : ℕ → ℕ → ℕ
upward n d = (n + (d - 1)) / d

-- the greatest whole number that is not above x; 0 for what is not finite
unfoldable pub floor_z : Float → ℤ
floor_z nan = pos 0
floor_z (inf s) = pos 0
floor_z (fin false m e) = pos (m * up e / down e)
floor_z (fin true m e) = neg_ℤ (pos (upward (m * up e) (down e)))

-- the least whole number that is not below x; 0 for what is not finite
unfoldable pub ceil_z : Float → ℤ
ceil_z nan = pos 0
ceil_z (inf s) = pos 0
ceil_z (fin false m e) = pos (upward (m * up e) (down e))
ceil_z (fin true m e) = neg_ℤ (pos (m * up e / down e))

-- ---- in units of the format's smallest value
abbrev pub pos_part : ℤ → ℕ
pos_part (pos n) = n
pos_part (negsuc n) = 0

abbrev pub neg_part : ℤ → ℕ
neg_part (pos n) = 0
neg_part (negsuc n) = suc n

-- q * l ≤ z < (q + 1) * l, for z that is p less n
abbrev pub Floor : ℤ → ℕ → ℕ → ℕ → Type 0
Floor q p n l = (pos_part q * l + n ≤ neg_part q * l + p) × (neg_part q * l + p < pos_part q * l + n + l)

-- (q - 1) * l < z ≤ q * l, for z that is p less n
abbrev pub Ceil : ℤ → ℕ → ℕ → ℕ → Type 0
Ceil q p n l = (neg_part q * l + p ≤ pos_part q * l + n) × (pos_part q * l + n < neg_part q * l + p + l)

scaled : (a b d l x y : ℕ) → 0 < d → a ≤ b → x * d ≡ a * l → y * d ≡ b * l → x ≤ y
scaled a b d l x y D h p q = le_of_mul-le-mul_right (le_trans (le_of_eq p) (le_trans (mul-le-mul_right l h) (le_of_eq (sym q)))) D

scaled_lt : (a b d l x y : ℕ) → 0 < l → a < b → x * d ≡ a * l → y * d ≡ b * l → x < y
scaled_lt a b d l x y L h p q = lt_of_mul-lt-mul_right d (lt_of_le_of_lt (le_of_eq p) (lt_of_lt_of_le (mul-lt-mul_of_pos_right h L) (le_of_eq (sym q))))

-- The four cases are two: a floor above zero and a ceiling below it cut the size, the other two raise it. The zeros are
-- the parts that the sign leaves out.
cut_is : (q r n d w l : ℕ) → q * d + r ≡ n → r < d → 0 < l → w * d ≡ n * l → (q * l + 0 ≤ 0 * l + w) × (0 * l + w < q * l + 0 + l)
cut_is q r n d w l e h L g =
    let a : q * l ≤ w = scaled (q * d) n d l (q * l) w (omega arith) (omega arith) (mul_right_comm q l d) g in
    let b : w < suc q * l = scaled_lt n (suc q * d) d l w (suc q * l) L (omega arith) g (mul_right_comm (suc q) l d) in
    omega arith

raised_is : (q r n d w l : ℕ) → q * d + r ≡ n + (d - 1) → r < d → 0 < l → w * d ≡ n * l → (0 * l + w ≤ q * l + 0) × (q * l + 0 < 0 * l + w + l)
raised_is q r n d w l e h L g =
    let a : w ≤ q * l = scaled n (q * d) d l w (q * l) (omega arith) (omega arith) g (mul_right_comm q l d) in
    let b : q * l < w + l = scaled_lt (q * d) (n + d) d l (q * l) (w + l) L (omega arith) (mul_right_comm q l d) (more w l d n g) in
    omega arith
  where
    more : (w l d n : ℕ) → w * d ≡ n * l → (w + l) * d ≡ (n + d) * l
    more w l d n g = omega arith

module _ (f : Format) (s : Bool) (m : ℕ) (e : ℤ) (t : T (fits f (fin s m e))) where
  cut : (m * up e / down e * 2 ^ low f + 0 ≤ 0 * 2 ^ low f + mag f (fin s m e)) × (0 * 2 ^ low f + mag f (fin s m e) < m * up e / down e * 2 ^ low f + 0 + 2 ^ low f)
  cut =
      let n = m * up e in
      cut_is (n / down e) (n % down e) n (down e) (mag f (fin s m e)) (2 ^ low f) (div-add-mod' n (down e)) (mod-lt n (down_pos e)) (pow_pos (low f)) (mag_cross f s m e t)

  raised : (0 * 2 ^ low f + mag f (fin s m e) ≤ upward (m * up e) (down e) * 2 ^ low f + 0) × (upward (m * up e) (down e) * 2 ^ low f + 0 < 0 * 2 ^ low f + mag f (fin s m e) + 2 ^ low f)
  raised =
      let n = m * up e + (down e - 1) in
      raised_is (n / down e) (n % down e) (m * up e) (down e) (mag f (fin s m e)) (2 ^ low f) (div-add-mod' n (down e)) (mod-lt n (down_pos e)) (pow_pos (low f)) (mag_cross f s m e t)

neg_pos : (c : ℕ) → pos_part (neg_ℤ (pos c)) ≡ 0
neg_pos zero = refl
neg_pos (suc c) = refl

neg_neg : (c : ℕ) → neg_part (neg_ℤ (pos c)) ≡ c
neg_neg zero = refl
neg_neg (suc c) = refl

pub floor_units : (f : Format) (x : Float) → T (fits f x) → T (finite x) → Floor (floor_z x) (plus f x) (less f x) (2 ^ low f)
unfolding floor_z
floor_units f nan a t = absurd t
floor_units f (inf s) a t = absurd t
floor_units f (fin false m e) a t = cut f false m e a
floor_units f (fin true m e) a t = let c = upward (m * up e) (down e) in rw (neg_pos c, neg_neg c) (raised f true m e a)

pub ceil_units : (f : Format) (x : Float) → T (fits f x) → T (finite x) → Ceil (ceil_z x) (plus f x) (less f x) (2 ^ low f)
unfolding ceil_z
ceil_units f nan a t = absurd t
ceil_units f (inf s) a t = absurd t
ceil_units f (fin false m e) a t = raised f false m e a
ceil_units f (fin true m e) a t = let c = m * up e / down e in rw (neg_pos c, neg_neg c) (cut f true m e a)
