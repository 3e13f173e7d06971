-- A whole number k modulo 4, read from the last two bits of k + 3 * 2 ^ 51. Assumes nothing.
use mathlib.Core.Path.{◌≡◌, refl, sym, ap, ◌∙◌}
use mathlib.Core.Bool.{Bool, true, false, not}
use Prim.Native.Nat.{ℕ, zero, suc, ◌+◌, ◌*◌, ◌%◌, ◌^◌, ◌≤◌, ◌<◌}
use native.Mathlib.Omega.{arith}
use lib.Dec.{T}
use lib.IntN.{pos}
use lib.Ieee.{Float, fin, binary64, to_bits, is_nan}
use Rattle.laws.specs.Binary64.{◌⊕◌}
use Rattle.laws.specs.Floor.{floor_z}
use Rattle.laws.specs.Operations.{dist}
use Rattle.laws.specs.Patterns.{large_bits}
use Rattle.laws.specs.Units.{part}
use Rattle.laws.specs.WholeSums.{IsSum, add_whole}
use Rattle.laws.specs.WholeUnits.{units_of_whole, value_finite, value_number}
use Rattle.laws.specs.WholeValues.{signed, floor_of_whole}
use Rattle.math_trig.specs.Trig.{modulo4}
use Rattle.math_trig.specs.Laws.{Small}

-- 3 * 2 ^ 51, a multiple of 4
abbrev pub middle : Float
middle = fin false 3 (pos 51)

-- k + 3 * 2 ^ 51 lies between 2 ^ 52 and 2 ^ 53
room : (s : Bool) (n : ℕ) → n ≤ 2 ^ 50 → dist (part s n + 3 * 2 ^ 51) (part (not s) n + 0) ≤ 2 ^ 53
room false n h = omega arith
room true n h = omega arith

between : (s r : Bool) (n j : ℕ) → n ≤ 2 ^ 50 → part r j + (part (not s) n + 0) ≡ part (not r) j + (part s n + 3 * 2 ^ 51)
    → (r ≡ false) × (2 ^ 52 ≤ j) × (j < 2 ^ 53) × (j + part (not s) n ≡ part s n + 3 * 2 ^ 51)
between false false n j h e = (refl, omega arith, omega arith, omega arith)
between true false n j h e = (refl, omega arith, omega arith, omega arith)
between false true n j h e = absurd (omega arith)
between true true n j h e = absurd (omega arith)

-- what stands above the whole number in the pattern is a multiple of 4, as 3 * 2 ^ 51 is
left_by_4 : (s : Bool) (n j : ℕ) → j + part (not s) n ≡ part s n + 3 * 2 ^ 51 → (1074 * 2 ^ 52 + j) % 4 ≡ modulo4 (signed s n)
left_by_4 false n j e = omega arith
left_by_4 true zero j e = omega arith
left_by_4 true (suc n) j e = omega arith

shifted : (k : Float) (a : Small k) → IsSum binary64 (k ⊕ middle) a.s a.n false (3 * 2 ^ 51)
shifted k a = add_whole binary64 k middle a.s a.n false (3 * 2 ^ 51) a.value (refl, refl) (room a.s a.n a.small)

pub modulo_is : (k : Float) → Small k → to_bits binary64 (k ⊕ middle) % 4 ≡ modulo4 (floor_z k)
modulo_is k a =
    let z = k ⊕ middle in
    let y = shifted k a in
    let b = between a.s y.sign a.n y.n a.small y.sums in
    let u = units_of_whole binary64 z y.sign y.n y.value in
    ap (λ (t : ℕ). t % 4) (large_bits binary64 z y.n (value_finite z y.sign y.n 1 y.value) (u.0 ∙ b.0) u.1 b.1 b.2)
    ∙ left_by_4 a.s a.n y.n b.3
    ∙ ap modulo4 (sym (floor_of_whole k a.s a.n a.value))

-- `f64::to_bits` asks for a number
pub modulo_asked : (k : Float) → Small k → T (not (is_nan (k ⊕ middle)))
modulo_asked k a = let y = shifted k a in value_number (k ⊕ middle) y.sign y.n 1 y.value
