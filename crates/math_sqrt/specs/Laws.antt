-- The laws of the square root: the value worked out is the nearest to the root, it is the only one, and it fits.
use Rattle.std.specs.Prelude.{◌≡◌, refl, true, false, ℕ, zero, suc, ◌+◌, ◌*◌, ◌^◌, ◌≤◌, ◌<◌, T, ℤ, Float}
use Rattle.std.proofs.Common.{sym, ◌∙◌, inl, inr, le_antisymm, arith}
use Rattle.std.specs.Float.{nan, inf, fin, Format, binary64}
use Rattle.std.specs.Float.Ieee.{low, of_bits, fits}
use Rattle.std.specs.Float.Ieee.Bits.{of_bits-fits}
use Rattle.std.specs.Float.Ieee.Fits.{nan-fits}
use Rattle.laws.specs.Units.{mag, digits}
use Rattle.math_sqrt.specs.Sqrt.{NearestRoot, SqrtOf, root_pattern, sqrt_of}
use Rattle.laws.specs.Numbers.{lt_or_le}
use Rattle.math_sqrt.specs.Nearest.{RootBits, result, nearest}
use Rattle.laws.specs.Values.{same_value, mag_lt, mag_pos}
use Rattle.math_sqrt.specs.Worked.{worked}

-- two values that are nearest have one magnitude
pub one_root : (f : Format) (x r r' : Float) → T (fits f r) → T (fits f r') → NearestRoot f x r → NearestRoot f x r' → mag f r ≡ mag f r'
one_root f x r r' F F' n n' = le_antisymm (not_over r' r F' F n' n) (not_over r r' F F' n n')
  where
    clash : (a b s : ℕ) → s < (a + b) * (a + b) → (b + a) * (b + a) < s → ⊥
    clash a b s x y = omega arith

    not_over : (r r' : Float) → T (fits f r) → T (fits f r') → NearestRoot f x r → NearestRoot f x r' → mag f r' ≤ mag f r
    not_over r r' F F' n n' = elim (lt_or_le (mag f r) (mag f r')) [
      | inl l ↦ absurd (clash (mag f r) (mag f r') (4 * (mag f x * 2 ^ low f)) (n.over r' F' l) (n'.under r F l))
      | inr l ↦ l
    ]

-- a root's pattern stands for the root
pub rooted : (m : ℕ) (e : ℤ) (r : ℕ) → RootBits (mag binary64 (fin false (suc m) e)) r → SqrtOf (fin false (suc m) e) (of_bits binary64 r)
unfolding SqrtOf
rooted m e r c =
    let x = fin false (suc m) e in
    let v = result (mag binary64 x) r c in
    (v.is_finite, v.sign, nearest (mag binary64 x) r c x refl)

pub sqrt_nearest : (x : Float) → T (fits binary64 x) → SqrtOf x (sqrt_of x)
unfolding SqrtOf sqrt_of
sqrt_nearest nan F = refl
sqrt_nearest (inf true) F = refl
sqrt_nearest (inf false) F = refl
sqrt_nearest (fin s zero e) F = refl
sqrt_nearest (fin true (suc m) e) F = refl
sqrt_nearest (fin false (suc m) e) F =
    let x = fin false (suc m) e in
    let d = digits binary64 x F in
    rooted m e (root_pattern (mag binary64 x)) (worked (mag binary64 x) d.0 d.1 (mag_pos binary64 false m e F) (mag_lt binary64 x F) d.2 d.3)

pub sqrt_fits : (x : Float) → T (fits binary64 x) → T (fits binary64 (sqrt_of x))
unfolding sqrt_of
sqrt_fits nan F = F
sqrt_fits (inf true) F = nan-fits binary64
sqrt_fits (inf false) F = F
sqrt_fits (fin s zero e) F = F
sqrt_fits (fin true (suc m) e) F = nan-fits binary64
sqrt_fits (fin false (suc m) e) F = of_bits-fits binary64 (root_pattern (mag binary64 (fin false (suc m) e)))

pub sqrt_only : (x r : Float) → T (fits binary64 x) → T (fits binary64 r) → SqrtOf x r → r ≡ sqrt_of x
unfolding SqrtOf sqrt_of
sqrt_only nan r F G h = h
sqrt_only (inf true) r F G h = h
sqrt_only (inf false) r F G h = h
sqrt_only (fin s zero e) r F G h = h
sqrt_only (fin true (suc m) e) r F G h = h
sqrt_only (fin false (suc m) e) r F G h =
    let x = fin false (suc m) e in
    let k = sqrt_nearest x F in
    same_value binary64 r (sqrt_of x) G (sqrt_fits x F) h.0 k.0 (h.1 ∙ sym k.1) (one_root binary64 x r (sqrt_of x) G (sqrt_fits x F) h.2 k.2)
