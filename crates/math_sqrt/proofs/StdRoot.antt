-- std's square root, which rounds a root once that is taken to 2271 binary places and marked where it goes on, is the
-- nearest value to the root. Assumes nothing.
use Rattle.std.proofs.Common.{◌≡◌, refl, Bool, true, false, cond, eqb, ℕ, zero, suc, ◌+◌, ◌-◌, ◌*◌, ◌/◌, ◌%◌, ◌^◌, ◌≤◌, ◌<◌, T, ℤ, sym, ap, ◌∙◌, subst, inl, inr, lt_of_le_of_lt, le_antisymm, eq-zero-or-pos, mul-le-mul, mul-le-mul_right, mul-lt-mul_of_pos_right, mul-pos, mul-div_cancel, zero-mul, pos, pow_pos, pow_mono, pow-add, eqb-true, arith, lit<, le-div_iff_mul-le, div-lt_iff_lt-mul}
use Rattle.std.proofs.Math.Nat.{zero-div, div-eq_of_lt-le, eq_of_mul-eq-mul_right, mul-mul-mul_comm}
use lib.Ieee.{Float, nan, inf, fin, binary64, up, down, size, round, root_below, root_twice, sqrt, fits}
use lib.Ieee.Digits.{size-lt, size-le}
use lib.Ieee.Exact.{HasValue}
use lib.Ieee.Fits.{down_pos, sqrt-fits}
use lib.Ieee.Nearest.{closest}
use lib.Ieee.Root.{whole_part}
use lib.Ieee.Scale.{grid, overflow, round_val}
use Rattle.laws.specs.Closest.{closest_added}
use Rattle.laws.specs.Numbers.{lt_or_le, pow_under}
use Rattle.laws.specs.Units.{mag, mag_cross, mag_of_value, digits}
use Rattle.laws.specs.Values.{same_value, mag_lt, mag_pos}
use Rattle.laws.specs.WholeUnits.{value_finite}
use Rattle.math_sqrt.specs.Laws.{sqrt_fits}
use Rattle.math_sqrt.specs.Middles.{square_pow}
use Rattle.math_sqrt.specs.Nearest.{RootBits, result}
use Rattle.math_sqrt.specs.Sqrt.{root_pattern, sqrt_of}
use Rattle.math_sqrt.specs.WholeRoot.{Root, root_digits}
use Rattle.math_sqrt.specs.Worked.{worked}

-- twice the root of M * U * U where that is whole, and else the odd number between twice its two neighbours
record Doubled (q M U t : ℕ) : Type 0 where
  least : q * (2 * U) ≤ t
  most : t < (q + 1) * (2 * U)
  more : q % 2 ≡ 1 → M % 2 ≡ 0 → q * (2 * U) < t

-- ---- the root to more places: that of M is from q up to q + 1, so that of M * U * U is from q * U up to (q + 1) * U,
-- and above q * U where q is odd and M is even
module _ (q M U N : ℕ) (P : 0 < U) (R : Root q M) (e : N ≡ M * (U * U)) where
  from : (r : ℕ) → N < (r + 1) * (r + 1) → q * U ≤ r
  from r h = elim (lt_or_le r (q * U)) [
    | inl l ↦
        let x : (r + 1) * (r + 1) ≤ q * U * (q * U) = mul-le-mul (omega arith) (omega arith) in
        let y : q * U * (q * U) ≡ q * q * (U * U) = mul-mul-mul_comm q U q U in
        let z : q * q * (U * U) ≤ M * (U * U) = mul-le-mul_right (U * U) R.below in
        absurd (omega arith)
    | inr l ↦ l
  ]

  under : (r : ℕ) → r * r ≤ N → r < (q + 1) * U
  under r h = elim (lt_or_le r ((q + 1) * U)) [
    | inl l ↦ l
    | inr l ↦
        let x : (q + 1) * U * ((q + 1) * U) ≤ r * r = mul-le-mul l l in
        let y : (q + 1) * U * ((q + 1) * U) ≡ (q + 1) * (q + 1) * (U * U) = mul-mul-mul_comm (q + 1) U (q + 1) U in
        let z : M * (U * U) < (q + 1) * (q + 1) * (U * U) = mul-lt-mul_of_pos_right R.above (mul-pos P P) in
        absurd (omega arith)
  ]

  odd_square : (q : ℕ) → q % 2 ≡ 1 → q * q % 2 ≡ 1
  odd_square q o = go q (q / 2) (omega arith)
    where
      go : (q a : ℕ) → q ≡ 2 * a + 1 → q * q % 2 ≡ 1
      go q a e = rw e (omega arith)

  exact_even : (r : ℕ) → r ≡ q * U → r * r ≡ N → q % 2 ≡ 1 → M % 2 ≡ 0 → ⊥
  exact_even r l h o v =
      let x : q * q * (U * U) ≡ M * (U * U) = sym (mul-mul-mul_comm q U q U) ∙ ap (λ (z : ℕ). z * z) (sym l) ∙ h ∙ e in
      let y : q * q ≡ M = eq_of_mul-eq-mul_right (U * U) (mul-pos P P) (q * q) M x in
      let z : q * q % 2 ≡ 1 = odd_square q o in
      absurd (omega arith)

  doubled_by : (r : ℕ) (b : Bool) → eqb (r * r) N ≡ b → r * r ≤ N → N < (r + 1) * (r + 1) → Doubled q M U (2 * r + cond b 0 1)
  doubled_by r true g h k =
      let x = from r k in
      let y = under r h in
      record { least = omega arith; most = omega arith; more = λ o v. elim (lt_or_le (q * U) r) [ inl l ↦ omega arith | inr l ↦ absurd (exact_even r (le_antisymm l x) (eqb-true (r * r) N g) o v) ] }
  doubled_by r false g h k =
      let x = from r k in
      let y = under r h in
      record { least = omega arith; most = omega arith; more = λ o v. omega arith }

  doubled : Doubled q M U (root_twice N)
  unfolding root_twice
  doubled = let w = whole_part N in doubled_by (root_below (size N) N) (eqb (root_below (size N) N * root_below (size N) N) N) refl w.0 w.1

-- ---- rounded to the next digit: to half of q, up where q is odd
halved : (q w n : ℕ) → 0 < w → q * w ≤ n → n < (q + 1) * w → (q % 2 ≡ 1 → q * w < n) → closest n (2 * w) ≡ (q + 1) / 2
halved q w n W l u o = closest_added n w W ∙ elim (eq-zero-or-pos (q % 2)) [ inl z ↦ go q (q / 2) (omega arith) l u | inr p ↦ up q (q / 2) (omega arith) (o (omega arith)) u ]
  where
    even : (a : ℕ) → 2 * a * w ≤ n → n < (2 * a + 1) * w → (n + (w - 1) + n / (2 * w) % 2) / (2 * w) ≡ a
    even a l u = let k : n / (2 * w) ≡ a = div-eq_of_lt-le (2 * w) (omega arith) (omega arith) in rw k (div-eq_of_lt-le (2 * w) (omega arith) (omega arith))

    odd : (a : ℕ) → (2 * a + 1) * w < n → n < (2 * a + 2) * w → (n + (w - 1) + n / (2 * w) % 2) / (2 * w) ≡ a + 1
    odd a l u = let k : n / (2 * w) ≡ a = div-eq_of_lt-le (2 * w) (omega arith) (omega arith) in rw k (div-eq_of_lt-le (2 * w) (omega arith) (omega arith))

    go : (q a : ℕ) → q ≡ 2 * a → q * w ≤ n → n < (q + 1) * w → (n + (w - 1) + n / (2 * w) % 2) / (2 * w) ≡ (q + 1) / 2
    go q a e l u = let h : (q + 1) / 2 ≡ a = omega arith in even a (rw e at l) (rw e at u) ∙ sym h

    up : (q a : ℕ) → q ≡ 2 * a + 1 → q * w < n → n < (q + 1) * w → (n + (w - 1) + n / (2 * w) % 2) / (2 * w) ≡ (q + 1) / 2
    up q a e l u = let h : (q + 1) / 2 ≡ a + 1 = omega arith in odd a (rw e at l) (omega (arith, rw e at u)) ∙ sym h

-- ---- the value of X units
module _ (X : ℕ) {r : ℕ} (c : RootBits X r) where
  abbrev unit : ℕ
  unit = 2 ^ (c.h - 1)

  abbrev half : ℕ
  half = (c.q + 1) / 2

  abbrev U : ℕ
  U = unit * 2 ^ 1196

  abbrev t : ℕ
  t = root_twice (X * 2 ^ 3468)

  unit_pos : 0 < unit
  unit_pos = pow_pos (c.h - 1)

  scaled : X * 2 ^ 3468 ≡ c.m * 2 ^ 54 * (U * U)
  scaled =
      let s : c.m * (unit * unit * 4) ≡ X * 2 ^ 1024 = ap (λ (z : ℕ). c.m * z) (sym (square_pow c.h c.above)) ∙ c.scaled in
      omega arith

  twice : Doubled c.q (c.m * 2 ^ 54) U t
  twice = doubled c.q (c.m * 2 ^ 54) U (X * 2 ^ 3468) (mul-pos unit_pos (lit< tt)) c.root scaled

  range : (2 ^ 53 ≤ c.q) × (c.q < 2 ^ 54)
  range = root_digits c.q c.m c.least c.most c.root

  -- in the format's units the doubled root has 53 digits more than what is dropped
  enough : 2 ^ (c.h - 1 + 52) * 2 ^ 2272 ≤ t * 2 ^ 1074
  enough =
      let x : 2 ^ 53 * unit ≤ c.q * unit = mul-le-mul_right unit range.0 in
      rw (pow-add 2 (c.h - 1) 52) (omega (arith, twice.least))

  room : t * 2 ^ 1074 < 2 ^ (c.h - 1 + 53) * 2 ^ 2272
  room =
      let x : (c.q + 1) * unit ≤ 2 ^ 54 * unit = mul-le-mul_right unit (omega (arith, range.1)) in
      rw (pow-add 2 (c.h - 1) 53) (omega (arith, twice.most))

  abbrev whole : ℕ
  whole = t * 2 ^ 1074 / 2 ^ 2272

  dropped : size whole - 53 ≡ c.h - 1
  dropped =
      let low : 2 ^ (c.h - 1 + 52) ≤ whole = (le-div_iff_mul-le (pow_pos 2272)).1 enough in
      let high : whole < 2 ^ (c.h - 1 + 53) = (div-lt_iff_lt-mul (pow_pos 2272)).1 room in
      omega (arith, pow_under whole (c.h - 1 + 52) (size whole) (size-lt whole) low, size-le whole (c.h - 1 + 53) high)

  on_grid : grid binary64 t (2 ^ 2272) ≡ half * unit
  on_grid =
      let n = t * 2 ^ 1074 in
      let w = 2 * U * 2 ^ 1074 in
      let d : 2 ^ 2272 * unit ≡ 2 * w = omega arith in
      ap (λ (k : ℕ). closest n (2 ^ 2272 * 2 ^ k) * 2 ^ k) dropped
      ∙ ap (λ (u : ℕ). closest n u * unit) d
      ∙ ap (λ (z : ℕ). z * unit) (halved c.q w n (omega (arith, unit_pos)) (omega (arith, twice.least)) (omega (arith, twice.most)) (λ o. omega (arith, twice.more o (omega arith))))

  pub root_value : HasValue (round binary64 false t (2 ^ 2272)) false (half * unit) (2 ^ 1074)
  root_value =
      let a : half ≤ 2 ^ 53 = omega (arith, range) in
      let b : unit ≤ 2 ^ 1533 = pow_mono {i = c.h - 1} {j = 1533} (omega (arith, c.below)) in
      let fit : half * unit < overflow binary64 = lt_of_le_of_lt (mul-le-mul a b) (lit< tt) in
      subst (λ (z : ℕ). HasValue (round binary64 false t (2 ^ 2272)) false z (2 ^ 1074)) on_grid
      (round_val binary64 t (2 ^ 2272) (subst (λ (z : ℕ). z < overflow binary64) (sym on_grid) fit))

-- what std hands over, in units
handed : (m : ℕ) (e : ℤ) → T (fits binary64 (fin false m e)) → m * up e * 2 ^ 4542 / down e ≡ mag binary64 (fin false m e) * 2 ^ 3468
handed m e F =
    let X = mag binary64 (fin false m e) in
    let k : X * down e ≡ m * up e * 2 ^ 1074 = mag_cross binary64 false m e F in
    let s : m * up e * 2 ^ 4542 ≡ X * 2 ^ 3468 * down e = omega arith in
    ap (λ (z : ℕ). z / down e) s ∙ mul-div_cancel (X * 2 ^ 3468) (down_pos e)

none : (s : Bool) (e : ℤ) → mag binary64 (fin s zero e) ≡ 0
unfolding mag
none s e = rw (zero-mul (up e), zero-mul (2 ^ 1074), zero-div (down e)) refl

pub sqrt_is : (x : Float) → T (fits binary64 x) → sqrt binary64 x ≡ sqrt_of x
unfolding sqrt sqrt_of
sqrt_is nan F = refl
sqrt_is (inf true) F = refl
sqrt_is (inf false) F = refl
sqrt_is (fin s zero e) F = same_value binary64 (fin s 0 (pos 0)) (fin s zero e) (sqrt-fits binary64 (fin s zero e)) F tt tt refl (none s (pos 0) ∙ sym (none s e))
sqrt_is (fin true (suc m) e) F = refl
sqrt_is (fin false (suc m) e) F =
    let x = fin false (suc m) e in
    let X = mag binary64 x in
    let d = digits binary64 x F in
    let c = worked X d.0 d.1 (mag_pos binary64 false m e F) (mag_lt binary64 x F) d.2 d.3 in
    let v = result X (root_pattern X) c in
    let h = subst (λ (n : ℕ). HasValue (round binary64 false (root_twice n) (2 ^ 2272)) false ((c.q + 1) / 2 * 2 ^ (c.h - 1)) (2 ^ 1074)) (sym (handed (suc m) e F)) (root_value X c) in
    let y = sqrt binary64 x in
    let u = mag_of_value binary64 y false ((c.q + 1) / 2 * 2 ^ (c.h - 1)) h in
    same_value binary64 y (sqrt_of x) (sqrt-fits binary64 x) (sqrt_fits x F) (value_finite y false ((c.q + 1) / 2 * 2 ^ (c.h - 1)) (2 ^ 1074) h) v.is_finite (u.0 ∙ sym v.sign) (u.1 ∙ sym v.units)
