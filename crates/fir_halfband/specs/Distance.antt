-- An index, its mirror image, and their distance from the middle of an odd number of taps. Assumes nothing.
use Rattle.std.specs.Prelude.{◌≡◌, true, cond, not, ◌&&◌, ℕ, ◌-◌, ◌%◌, ◌<◌, min, eqb, ltb, leb}
use Rattle.std.proofs.Common.{ap, ◌∙◌, lt-ltb, le-ltb, eqb-true, eq-eqb, ne_eqb}
use native.Mathlib.Omega.{arith, min_cases}
use Rattle.laws.specs.Cases.{either}
use Rattle.laws.specs.Numbers.{lt_or_le}
use Rattle.laws.specs.Tests.{both}
use Rattle.fir_halfband.specs.Halfband.{length_taken, middle, distance, vanishes}

-- a length that is taken is odd
pub taken_odd : (n : ℕ) → length_taken n ≡ true → n % 2 ≡ 1
unfolding length_taken
taken_odd n h = let e = eqb-true (n % 4) 3 (both (leb 3 n) (eqb (n % 4) 3) h).1 in omega arith

-- the lesser of the two indices is the one in the left half
pub left_is_lesser : (n k : ℕ) → n % 2 ≡ 1 → k < n → cond (ltb (middle n) k) (n - 1 - k) k ≡ min k (n - 1 - k)
left_is_lesser n k o h = either (lt_or_le (middle n) k) (λ b. rw (lt-ltb (middle n) k b) (omega arith)) (λ b. rw (le-ltb (middle n) k b) (omega arith))

pub mirror_lesser : (n k : ℕ) → k < n → min (n - 1 - k) (n - 1 - (n - 1 - k)) ≡ min k (n - 1 - k)
mirror_lesser n k h = omega arith

-- both are as far from the middle
pub mirror_distance : (n k : ℕ) → n % 2 ≡ 1 → k < n → distance n (n - 1 - k) ≡ distance n k
mirror_distance n k o h = omega arith

pub lesser_distance : (n k : ℕ) → n % 2 ≡ 1 → k < n → distance n (min k (n - 1 - k)) ≡ distance n k
lesser_distance n k o h = min_cases k (n - 1 - k) (distance n (min k (n - 1 - k)) ≡ distance n k) (λ b e. ap (distance n) e) (λ b e. ap (distance n) e ∙ mirror_distance n k o h)

-- and whether a tap is zero depends on its distance alone
pub vanishes_alike : (n j k : ℕ) → distance n j ≡ distance n k → vanishes n j ≡ vanishes n k
unfolding vanishes
vanishes_alike n j k e = ap (λ (d : ℕ). not (eqb d 0) && eqb (d % 2) 0) e

pub vanishes_at : (n k : ℕ) → distance n k % 2 ≡ 0 → (distance n k ≡ 0 → ⊥) → vanishes n k ≡ true
unfolding vanishes
vanishes_at n k e h = rw (ne_eqb (distance n k) 0 h, eq-eqb (distance n k % 2) 0 e)
