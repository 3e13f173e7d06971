-- The whole-number square root of m * 2 ^ 54, found a binary digit at a time in 64 bits. These are laws of the method:
-- where it starts, a step for each digit, and that what it ends with is the root. Assumes nothing.
use Rattle.std.specs.Prelude.{◌≡◌, ℕ, suc, ◌+◌, ◌-◌, ◌*◌, ◌%◌, ◌^◌, ◌≤◌, ◌<◌}
use Rattle.std.proofs.Common.{ap, ◌∙◌, subst, one-mul, pow-suc, arith, lit≤, shl_exact}
use Rattle.math_sqrt.specs.WholeRoot.{Root}

-- The digits of the root from the place p up are found: they are q. Twice what the square of q leaves over is rest, in
-- units of p.
pub record Going (m p q rest : ℕ) : Type 0 where
  pub sum : 2 * (q * q) + rest * p ≡ 2 * (m * 2 ^ 54)
  pub near : rest < 4 * q + 2 * p
  pub room : q + p ≤ 2 ^ 54

pub start : (m : ℕ) → m < 2 ^ 54 → Going m (2 ^ 54) 0 (m * 2)
start m h = record { sum = omega arith; near = omega arith; room = omega arith }

-- the next digit is 1
pub one : {m p q rest : ℕ} → Going m (p * 2) q rest → q * 2 + p ≤ rest → Going m p (q + p) ((rest - (q * 2 + p)) * 2)
one {m} {p} {q} {rest} g h = go (rest - (q * 2 + p)) (omega arith)
  where
    go : (D : ℕ) → rest ≡ q * 2 + p + D → Going m p (q + p) (D * 2)
    go D e =
        let x : rest * (p * 2) ≡ (q * 2 + p + D) * (p * 2) = ap (λ (z : ℕ). z * (p * 2)) e in
        record { sum = omega arith; near = omega arith; room = omega arith }

-- the next digit is 0
pub none : {m p q rest : ℕ} → Going m (p * 2) q rest → rest < q * 2 + p → Going m p q (rest * 2)
none g h = record { sum = omega arith; near = omega arith; room = omega arith }

-- the place of the next digit
pub next : {m i q rest : ℕ} → 0 < i → Going m (2 ^ i) q rest → Going m (2 ^ (i - 1) * 2) q rest
next {m} {i} {q} {rest} h g =
    let e : i ≡ suc (i - 1) = omega arith in
    subst (λ (p : ℕ). Going m p q rest) (ap (λ (j : ℕ). 2 ^ j) e ∙ pow-suc 2 (i - 1)) g

-- no digit is left
pub done : {m i q rest : ℕ} → i ≡ 0 → Going m (2 ^ i) q rest → Root q (m * 2 ^ 54)
done {m} {i} {q} {rest} e g = go (subst (λ (j : ℕ). Going m (2 ^ j) q rest) e g)
  where
    go : Going m 1 q rest → Root q (m * 2 ^ 54)
    go g = record { below = omega arith; above = omega arith }

-- 1 << i, which loses nothing
pub bit : (i : ℕ) → i < 54 → 1 * 2 ^ i % 2 ^ 64 ≡ 2 ^ i
bit i h = shl_exact {a = 1} 1 i 64 (lit≤ tt) (omega arith) ∙ one-mul (2 ^ i)
