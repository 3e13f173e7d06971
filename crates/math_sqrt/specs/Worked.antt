-- The pattern that `root_pattern` works out is the pattern of a root.
use Rattle.std.specs.Prelude.{◌≡◌, refl, ℕ, ◌+◌, ◌-◌, ◌*◌, ◌/◌, ◌^◌, ◌≤◌, ◌<◌}
use Rattle.std.proofs.Common.{sym, ap, ◌∙◌, inl, inr, le_trans, le_of_eq, lt_of_lt_of_le, lt_of_le_of_lt, eq-zero-or-pos, mul_assoc, mul-le-mul_right, le_of_mul-le-mul_right, lt_of_mul-lt-mul_right, mul-div_cancel, arith, pow-add, pow_pos, pow_mono, shl_lt}
use Rattle.std.specs.Float.Ieee.{size}
use Rattle.std.specs.Float.Ieee.Digits.{size-lt, size_reaches, size-le}
use Rattle.math_sqrt.specs.Sqrt.{whole_root, root_pattern}
use Rattle.laws.specs.Numbers.{pow_split}
use Rattle.math_sqrt.specs.WholeRoot.{whole_root_lem}
use Rattle.math_sqrt.specs.Nearest.{RootBits}

-- X has at most 53 digits, those of q, and j zeros after them
module _ (X q j : ℕ) (above : 0 < X) (below : X < 2 ^ 2098) (few : q < 2 ^ 53) (is : X ≡ q * 2 ^ j) where
  abbrev h : ℕ
  h = (size X + 971) / 2

  abbrev m : ℕ
  m = X * 2 ^ 1024 / 2 ^ (2 * h)

  size_pos : 0 < size X
  size_pos = elim (eq-zero-or-pos (size X)) [ inl z ↦ absurd (omega (arith, rw z at (size-lt X))) | inr p ↦ p ]

  size_most : size X ≤ 53 + j
  size_most = size-le X (53 + j) (lt_of_le_of_lt (le_of_eq is) (shl_lt 53 j few))

  -- the division loses nothing
  exact : m * 2 ^ (2 * h) ≡ X * 2 ^ 1024
  exact =
      ap (λ (z : ℕ). z / 2 ^ (2 * h) * 2 ^ (2 * h)) whole
      ∙ ap (λ (z : ℕ). z * 2 ^ (2 * h)) (mul-div_cancel (q * 2 ^ (j + 1024 - 2 * h)) (pow_pos (2 * h)))
      ∙ sym whole
    where
      whole : X * 2 ^ 1024 ≡ q * 2 ^ (j + 1024 - 2 * h) * 2 ^ (2 * h)
      whole =
          ap (λ (z : ℕ). z * 2 ^ 1024) is
          ∙ mul_assoc q (2 ^ j) (2 ^ 1024)
          ∙ ap (λ (z : ℕ). q * z) (sym (pow-add 2 j 1024) ∙ pow_split (2 * h) (j + 1024) (omega (arith, size_most)))
          ∙ sym (mul_assoc q (2 ^ (j + 1024 - 2 * h)) (2 ^ (2 * h)))

  least : 2 ^ 52 ≤ m
  least =
      le_of_mul-le-mul_right
      (le_trans (le_of_eq (sym (pow-add 2 52 (2 * h))))
      (le_trans (pow_mono {i = 52 + 2 * h} {j = size X - 1 + 1024} (omega (arith, size_pos)))
      (le_trans (le_of_eq (pow-add 2 (size X - 1) 1024))
      (le_trans (mul-le-mul_right (2 ^ 1024) (size_reaches X (size X - 1) (omega (arith, size_pos)))) (le_of_eq (sym exact))))))
      (pow_pos (2 * h))

  most : m < 2 ^ 54
  most =
      lt_of_mul-lt-mul_right (2 ^ (2 * h))
      (lt_of_le_of_lt (le_of_eq exact)
      (lt_of_lt_of_le (shl_lt (size X) 1024 (size-lt X))
      (le_trans (pow_mono {i = size X + 1024} {j = 54 + 2 * h} (omega arith)) (le_of_eq (pow-add 2 54 (2 * h))))))

  pub worked : RootBits X (root_pattern X)
  unfolding root_pattern
  worked =
      let l = size_pos in
      let b : size X ≤ 2098 = size-le X 2098 below in
      record {
        m = m;
        h = h;
        q = whole_root (m * 2 ^ 54);
        scaled = exact;
        least = least;
        most = most;
        root = whole_root_lem (m * 2 ^ 54);
        above = omega arith;
        below = omega arith;
        made = refl;
      }
