-- A test of every number below n, and how a loop that tries one after the other finds what it comes to. Assumes nothing.
use Rattle.std.specs.Prelude.{ℕ, zero, suc, ◌+◌, ◌<◌, ◌≡◌, refl, Bool, true, false, ◌&&◌}
use Rattle.std.proofs.Common.{ap, ◌∙◌, subst, not-suc-le-zero, le_of_suc-le-suc, zero-lt-suc, arith}
use Rattle.std.proofs.Math.Nat.{suc-le-suc_iff}
use Rattle.laws.specs.Cases.{either}
use Rattle.laws.specs.Numbers.{lt_or_le}
use Rattle.laws.specs.Tests.{both}

-- f 0 and f 1 and .. and f (n - 1)
unfoldable pub every : ℕ → (ℕ → Bool) → Bool
every zero f = true
every (suc n) f = f 0 && every n (λ k. f (suc k))

pub every_at : (n : ℕ) (f : ℕ → Bool) → every n f ≡ true → (i : ℕ) → i < n → f i ≡ true
unfolding every
every_at zero f h i l = absurd (not-suc-le-zero l)
every_at (suc n) f h zero l = (both (f 0) (every n (λ k. f (suc k))) h).0
every_at (suc n) f h (suc i) l = every_at n (λ k. f (suc k)) (both (f 0) (every n (λ k. f (suc k))) h).1 i (le_of_suc-le-suc l)

pub every_all : (n : ℕ) (f : ℕ → Bool) → ((i : ℕ) → i < n → f i ≡ true) → every n f ≡ true
unfolding every
every_all zero f h = refl
every_all (suc n) f h = rw (h 0 (zero-lt-suc n)) (every_all n (λ k. f (suc k)) (λ i l. h (suc i) (suc-le-suc_iff.1 l)))

-- one that fails
pub every_fails : (n : ℕ) (f : ℕ → Bool) (i : ℕ) → i < n → f i ≡ false → every n f ≡ false
unfolding every
every_fails zero f i l e = absurd (not-suc-le-zero l)
every_fails (suc n) f zero l e = rw e
every_fails (suc n) f (suc i) l e = ap (λ (b : Bool). f 0 && b) (every_fails n (λ k. f (suc k)) i (le_of_suc-le-suc l) e) ∙ go (f 0)
  where
    go : (b : Bool) → b && false ≡ false
    go true = refl
    go false = refl

-- a loop that has tried those below i tries i
pub one_more : (f : ℕ → Bool) (i : ℕ) → ((k : ℕ) → k < i → f k ≡ true) → f i ≡ true → (k : ℕ) → k < i + 1 → f k ≡ true
one_more f i h e k l = either (lt_or_le k i) (λ a. h k a) (λ a. let q : i ≡ k = omega arith in subst (λ (j : ℕ). f j ≡ true) q e)
