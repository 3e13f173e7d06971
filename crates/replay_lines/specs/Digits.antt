-- The digits of the list. Assumes nothing.
use Rattle.std.specs.Prelude.{◌≡◌, ℕ, ◌+◌, ◌-◌, ◌*◌, ◌^◌, ◌<◌, Bool, true, false, cond, nat_le, nat_lt, refl, Option, Some, None}
use Rattle.std.proofs.Common.{sym, ◌∙◌, subst, pow-suc, add-one, arith, leb-true}
use Rattle.std.proofs.Math.Nat.{pow-le-pow_right}

-- from `0`, 48, to `9`, and from `A`, 65, to `F`
unfoldable pub digit_of : ℕ → Option ℕ
digit_of b =
    cond (nat_lt b 48) None
    (cond (nat_le b 57) (Some (b - 48))
    (cond (nat_lt b 65) None
    (cond (nat_le b 70) (Some (b - 65 + 10)) None)))

-- a digit is below 16
abbrev Small : Option ℕ → Type 0
Small (Some d) = d < 16
Small None = Unit {0}

by_test : (t : Bool) (a b : Option ℕ) → (t ≡ true → Small a) → (t ≡ false → Small b) → Small (cond t a b)
by_test true a b f g = f refl
by_test false a b f g = g refl

small : (b : ℕ) → Small (digit_of b)
unfolding digit_of
small b =
    by_test (nat_lt b 48) _ _ (λ _. tt) (λ _.
    by_test (nat_le b 57) _ _ (λ h. omega (arith, leb-true b 57 h)) (λ _.
    by_test (nat_lt b 65) _ _ (λ _. tt) (λ _.
    by_test (nat_le b 70) _ _ (λ h. omega (arith, leb-true b 70 h)) (λ _. tt))))

-- what a digit that was read is told to be
pub told : (b : ℕ) (r : Option ℕ) (d : ℕ) → r ≡ digit_of b → r ≡ Some d → d < 16
told b r d p q = subst Small (sym p ∙ q) (small b)

-- one digit more after i of them: what 16 digits make fits a u64
pub room : (i v d : ℕ) → i < 16 → v < 16 ^ i → d < 16 → (v * 16 + d < 2 ^ 64) × (v * 16 + d < 16 ^ (i + 1))
room i v d l h s = (omega (arith, pow-le-pow_right {n = 16} (omega arith) {i = i} {j = 15} (omega arith)), rw (add-one i, pow-suc 16 i) (omega arith))
