-- The middles between the rounded root and the other values: that the root lies on the near side of each, in whole
-- numbers.
-- N is the number whose root is sought, q the whole part of that root, and a its half, rounded. The rounded root is a *
-- c units, for a power of two c, and the exact one is that of N * (c * c), halved.
use Rattle.std.specs.Prelude.{◌≡◌, ℕ, suc, ◌+◌, ◌-◌, ◌*◌, ◌^◌, ◌≤◌, ◌<◌}
use Rattle.std.proofs.Common.{sym, ap, ◌∙◌, subst, inl, inr, le_trans, le_of_eq, lt_of_le_of_lt, lt_of_lt_of_le, eq-or-lt_of_le, mul_assoc, mul-pos, mul-le-mul, mul-le-mul_right, mul-lt-mul_of_pos_right, lt_of_mul-lt-mul_right, pow-suc, arith, pow-add, pow_pos, pow_mono}
use Rattle.std.proofs.Math.Nat.{mul-mul-mul_comm}
use Rattle.laws.specs.Numbers.{lt_or_le, pow_split}

-- a value of 53 digits is a multiple of c units, a power of two, or less than 2 ^ 52 times c
pub data Step (Y c : ℕ) : Type 0 where
  times_of : (z : ℕ) → Y ≡ z * c → Step Y c
  less_of : Y < 2 ^ 52 * c → Step Y c

pub step : (q j k Y : ℕ) → q < 2 ^ 53 → Y ≡ q * 2 ^ j → Step Y (2 ^ k)
step q j k Y h e = elim (lt_or_le j k) [
  | inl l ↦ less_of (less (2 ^ j) (2 ^ k) e (pow_pos j) (le_trans (le_of_eq (sym (pow-suc 2 j))) (pow_mono l)))
  | inr l ↦ times_of (q * 2 ^ (j - k)) (e ∙ ap (λ (x : ℕ). q * x) (pow_split k j l) ∙ sym (mul_assoc q (2 ^ (j - k)) (2 ^ k)))
]
  where
    less : (u c : ℕ) → Y ≡ q * u → 0 < u → u * 2 ≤ c → Y < 2 ^ 52 * c
    less u c e U l = let x : q * u < 2 ^ 53 * u = mul-lt-mul_of_pos_right h U in omega arith

-- ---- the middle above
pub over_mid : (a q c N Y : ℕ) → 0 < c → 2 ^ 52 ≤ a → q ≤ 2 * a → N < (q + 1) * (q + 1) → a * c < Y → Step Y c
    → N * (c * c) < (a * c + Y) * (a * c + Y)
over_mid a q c N Y C A k n l (times_of z e) =
    let g : a < z = lt_of_mul-lt-mul_right c (subst (λ (y : ℕ). a * c < y) e l) in
    let x : (q + 1) * c ≤ (a + z) * c = mul-le-mul_right c (omega arith) in
    let y : (q + 1) * c ≤ a * c + Y = omega arith in
    lt_of_lt_of_le (mul-lt-mul_of_pos_right n (mul-pos C C)) (le_trans (le_of_eq (mul-mul-mul_comm (q + 1) (q + 1) c c)) (mul-le-mul y y))
over_mid a q c N Y C A k n l (less_of h) = let x : 2 ^ 52 * c ≤ a * c = mul-le-mul_right c A in absurd (omega arith)

-- ---- the middle below
-- a + z is below the root of an even N: at most q, and odd where it is q, as is then its square
below_root : (a z q M : ℕ) → z < a → 2 * a ≤ q + 1 → q * q ≤ 2 * M → (a + z) * (a + z) < 2 * M
below_root a z q M h k n = elim (eq-or-lt_of_le h) [
  | inl e ↦
      let x : (a + z) * (a + z) ≤ q * q = mul-le-mul (omega arith) (omega arith) in
      let y : (a + z) * (a + z) ≡ (2 * z + 1) * (2 * z + 1) = ap (λ (s : ℕ). s * s) (omega arith) in
      omega arith
  | inr l ↦ let x : (a + z + 1) * (a + z + 1) ≤ q * q = mul-le-mul (omega arith) (omega arith) in omega arith
]

pub under_mid : (a q c M Y : ℕ) → 0 < c → 2 * a ≤ q + 1 → 2 ^ 53 ≤ q → q * q ≤ 2 * M → Y < a * c → Step Y c
    → (a * c + Y) * (a * c + Y) < 2 * M * (c * c)
under_mid a q c M Y C k Q n l (times_of z e) =
    let g : z < a = lt_of_mul-lt-mul_right c (subst (λ (y : ℕ). y < a * c) e l) in
    let x : a * c + Y ≡ (a + z) * c = omega arith in
    lt_of_le_of_lt (le_of_eq (ap (λ (y : ℕ). y * y) x ∙ mul-mul-mul_comm (a + z) c (a + z) c))
    (mul-lt-mul_of_pos_right (below_root a z q M g k n) (mul-pos C C))
under_mid a q c M Y C k Q n l (less_of h) =
    let x : (a + 2 ^ 52) * c ≤ q * c = mul-le-mul_right c (omega arith) in
    let y : suc (a * c + Y) ≤ q * c = omega arith in
    lt_of_lt_of_le (square (a * c + Y) (mul-le-mul y y)) (le_trans (le_of_eq (mul-mul-mul_comm q c q c)) (mul-le-mul_right (c * c) n))
  where
    square : (B : ℕ) {D : ℕ} → suc B * suc B ≤ D → B * B < D
    square B h = omega arith

-- ---- the value in the units of the root
pub four_at : (m p X K K' c : ℕ) → p ≡ c * c * 4 → m * p ≡ X * K → K' * 4 ≡ K * 2 ^ 52 → 4 * (X * K') ≡ 2 * (m * 2 ^ 53) * (c * c)
four_at m p X K K' c e f g =
    let x : X * (K' * 4) ≡ X * (K * 2 ^ 52) = ap (λ (z : ℕ). X * z) g in
    let y : m * p ≡ m * (c * c * 4) = ap (λ (z : ℕ). m * z) e in
    omega arith

pub square_pow : (h : ℕ) → 1 ≤ h → 2 ^ (2 * h) ≡ 2 ^ (h - 1) * 2 ^ (h - 1) * 4
square_pow h H = ap (λ (x : ℕ). 2 ^ x) (go h H) ∙ pow-add 2 (h - 1 + (h - 1)) 2 ∙ ap (λ (x : ℕ). x * 4) (pow-add 2 (h - 1) (h - 1))
  where
    go : (h : ℕ) → 1 ≤ h → 2 * h ≡ h - 1 + (h - 1) + 2
    go h H = omega arith
