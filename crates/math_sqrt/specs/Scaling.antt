-- A value with the leading digit of its significand brought into place, and the pattern of its root. These are laws of
-- scaling by powers of two: what is doubled and counted in half the parts stands for the same value, and the rounded
-- root of its significand gives the pattern. Assumes nothing.
use Rattle.std.specs.Prelude.{◌≡◌, refl, ℕ, zero, suc, ◌+◌, ◌-◌, ◌*◌, ◌/◌, ◌%◌, ◌^◌, ◌≤◌, ◌<◌}
use Rattle.std.proofs.Common.{sym, ap, ◌∙◌, le_refl, lt_irrefl, add_comm, mul_assoc, mul-le-mul_right, pow-suc, arith, pow-add}
use Rattle.std.proofs.Math.Nat.{pow-succ'}
use Rattle.laws.specs.Numbers.{pow_under}
use Rattle.math_sqrt.specs.Rounded.{HalfRoot}
use Rattle.math_sqrt.specs.Patterns.{mag_of}
use Rattle.math_sqrt.specs.Nearest.{RootBits}

-- m * 2 ^ g stands for a value of X units: it counts them in parts of 2 ^ -1024
pub record Stands (X m g : ℕ) : Type 0 where
  pub same : m * 2 ^ g ≡ X * 2 ^ 1024

-- r is the pattern of the root of the value that m * 2 ^ g stands for
pub record Finished (m g r : ℕ) : Type 0 where
  pub root_of : (X : ℕ) → Stands X m g → RootBits X r

-- m * 2 ^ g stands for a value of X units, and m has 53 digits
pub record Normal (X m g : ℕ) : Type 0 where
  pub stands : Stands X m g
  pub least : 2 ^ 52 ≤ m
  pub most : m < 2 ^ 53
  pub low : 972 ≤ g
  pub high : g ≤ 1024

-- g is even, and m has 53 or 54 digits
pub record Even (m g : ℕ) : Type 0 where
  pub least : 2 ^ 52 ≤ m
  pub most : m < 2 ^ 54
  pub twice : g % 2 ≡ 0
  pub low : 972 ≤ g
  pub high : g ≤ 3069

-- n * 2 ^ h stands for what m * 2 ^ g stands for, with an even h
pub record Evened (m g n h : ℕ) : Type 0 where
  pub stands : (X : ℕ) → Stands X m g → Stands X n h
  pub even : Even n h

-- ---- the pattern
pub finished : (m g r : ℕ) → Even m g → HalfRoot m r → Finished m g ((g / 2 - 1) * 2 ^ 52 + r)
finished m g r v R = record {
  root_of = λ X s. record {
    m = m;
    h = g / 2;
    q = R.q;
    scaled = ap (λ (z : ℕ). m * 2 ^ z) (even g v.twice) ∙ s.same;
    least = v.least;
    most = v.most;
    root = R.root;
    above = omega (arith, v.low);
    below = omega (arith, v.high);
    made = ap (λ (z : ℕ). (g / 2 - 1) * 2 ^ 52 + z) R.half;
  };
}
  where
    even : (g : ℕ) → g % 2 ≡ 0 → 2 * (g / 2) ≡ g
    even g e = omega arith

pub of_field : (φ d : ℕ) {r : ℕ} → 0 < φ → Finished (d + 2 ^ 52) (φ + 1023) r → RootBits (mag_of φ d) r
unfolding mag_of
of_field zero d h f = absurd (lt_irrefl 0 h)
of_field (suc x) d h f = f.root_of ((2 ^ 52 + d) * 2 ^ x) (record { same = moved })
  where
    at : (x : ℕ) → suc x + 1023 ≡ x + 1024
    at x = omega arith

    moved : (d + 2 ^ 52) * 2 ^ (suc x + 1023) ≡ (2 ^ 52 + d) * 2 ^ x * 2 ^ 1024
    moved = rw (add_comm d (2 ^ 52), at x, pow-add 2 x 1024) (sym (mul_assoc (2 ^ 52 + d) (2 ^ x) (2 ^ 1024)))

pub of_normal : (φ d : ℕ) {m g r : ℕ} → φ ≡ 0 → Normal d m g → Finished m g r → RootBits (mag_of φ d) r
unfolding mag_of
of_normal φ d e n f = rw e (f.root_of d n.stands)

-- ---- one doubling
doubled : {X m g : ℕ} → 0 < g → Stands X m g → Stands X (m * 2) (g - 1)
doubled {X} {m} {g} h s = record {
  same = mul_assoc m 2 (2 ^ (g - 1)) ∙ ap (λ (z : ℕ). m * z) (sym (pow-succ' 2 (g - 1)) ∙ ap (λ (z : ℕ). 2 ^ z) (back g h)) ∙ s.same;
}
  where
    back : (g : ℕ) → 0 < g → suc (g - 1) ≡ g
    back g h = omega arith

module _ {m g d k : ℕ} (l : 2 ^ 52 ≤ m) (u : m < 2 ^ 53) (low : 972 ≤ g) (high : g ≤ 3069) where
  pub evened_same : d ≡ m → k ≡ g → g % 2 ≡ 0 → Evened m g d k
  evened_same e h p = rw (e, h) (record { stands = λ X s. s; even = record { least = l; most = omega arith; twice = p; low = low; high = high } })

  pub evened_doubled : d ≡ m * 2 → k ≡ g - 1 → g % 2 ≡ 1 → Evened m g d k
  evened_doubled e h p =
      rw (e, h)
      (record {
        stands = λ X s. doubled (omega arith) s;
        even = record { least = omega arith; most = omega arith; twice = omega arith; low = omega arith; high = omega arith };
      })

-- the root of what was made even is the root of what it was made from
pub finished_evened : {m g n h r : ℕ} → Evened m g n h → Finished n h r → Finished m g r
finished_evened e f = record { root_of = λ X s. f.root_of X (e.stands X s) }

-- ---- the loop that brings the leading digit of a subnormal value into place: after 1024 - k doublings
pub record Scaling (X a k : ℕ) : Type 0 where
  pub stands : Stands X a k
  pub most : a < 2 ^ 53
  pub high : k ≤ 1024
  pub grown : 2 ^ (1024 - k) ≤ a

pub scaling_start : (X : ℕ) → 0 < X → X < 2 ^ 53 → Scaling X X 1024
scaling_start X h g = record { stands = record { same = refl }; most = g; high = le_refl 1024; grown = h }

pub scaling_low : {X a k : ℕ} → a < 2 ^ 52 → Scaling X a k → 973 ≤ k
scaling_low {X} {a} {k} h s = omega (arith, pow_under a (1024 - k) 52 h s.grown)

pub scaling_next : {X a k : ℕ} → a < 2 ^ 52 → Scaling X a k → Scaling X (a * 2) (k - 1)
scaling_next {X} {a} {k} h s =
    let l : 973 ≤ k = scaling_low h s in
    let e : 1024 - (k - 1) ≡ suc (1024 - k) = omega arith in
    record {
      stands = doubled (omega arith) s.stands;
      most = omega arith;
      high = omega arith;
      grown = rw (e, pow-suc 2 (1024 - k)) (mul-le-mul_right 2 s.grown);
    }

pub scaling_done : {X a k : ℕ} → 2 ^ 52 ≤ a → Scaling X a k → Normal X a k
scaling_done {X} {a} {k} h s = record {
  stands = s.stands;
  least = h;
  most = s.most;
  low = omega (arith, pow_under a (1024 - k) 53 s.most s.grown);
  high = s.high;
}
