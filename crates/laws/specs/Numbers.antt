-- Natural numbers: two compared, and powers of two. Assumes nothing.
use Rattle.std.specs.Prelude.{◌≡◌, Bool, true, false, not, ◌⊎◌, ℕ, ◌-◌, ◌*◌, ◌^◌, ◌≤◌, ◌<◌, T, ltb}
use Rattle.std.proofs.Common.{sym, ap, ◌∙◌, inl, inr, le_trans, lt_of_not-le, not-le_of_lt, sub-add_cancel, ltb→lt, nltb→le, pow-add, pow_mono}

pub lt_or_le : (a b : ℕ) → (a < b) ⊎ (b ≤ a)
lt_or_le a b = go (ltb a b) (ltb→lt a b) (nltb→le a b)
  where
    go : (v : Bool) → (T v → a < b) → (T (not v) → b ≤ a) → (a < b) ⊎ (b ≤ a)
    go true x y = inl (x tt)
    go false x y = inr (y tt)

pub pow_split : (i j : ℕ) → i ≤ j → 2 ^ j ≡ 2 ^ (j - i) * 2 ^ i
pow_split i j h = ap (λ (x : ℕ). 2 ^ x) (sym (sub-add_cancel h)) ∙ pow-add 2 (j - i) i

-- a power that is not above a number of j digits is a lesser one
pub pow_under : (a i j : ℕ) → a < 2 ^ j → 2 ^ i ≤ a → i < j
pow_under a i j h g = lt_of_not-le (λ (k : j ≤ i). not-le_of_lt h (le_trans (pow_mono k) g))
