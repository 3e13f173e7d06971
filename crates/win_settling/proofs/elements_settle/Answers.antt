-- `win_settling::elements_settle` meets its contract: `all` tries every number below n. Assumes nothing.
use Rattle.std.proofs.Common.{◌≡◌, ℕ, zero, suc, ◌+◌, Bool, refl, ap, ◌∙◌, arith, rules}
use Rattle.std.specs.List.{list_all, range_with_len}
use Rattle.std.proofs.lemmas.Iterator.{YieldsList-from_range}
use Rattle.std.proofs.lemmas.Iterator.Search.{all_from_yields_List}
use Rattle.laws.specs.Every.{every}
use Rattle.win_settling.specs.Settling.{element_settles}
use Rattle.win_settling.proofs.elements_settle.Goals as goal

-- of the numbers from a on
tried : (f : ℕ → Bool) (n a : ℕ) (g : ℕ → Bool) → ((k : ℕ) → f (a + k) ≡ g k) → list_all f (range_with_len a n) ≡ every n g
unfolding every
tried f zero a g h = refl
tried f (suc n) a g h =
    let first : f a ≡ g 0 = ap f (omega arith) ∙ h 0 in
    let rest = tried f n (a + 1) (λ k. g (suc k)) (λ k. ap f (omega arith) ∙ h (suc k)) in
    rw (first, rest)

pub returns : goal.returns
returns c =
    let a = c.args in
    let f = element_settles a.beta a.d in
    all_from_yields_List {v = λ x. x} f _ _ _ c.all.ensures.ran (YieldsList-from_range 0 a.n a.n refl (omega arith)) (λ x b q k. search rules)
    ∙ tried f a.n 0 f (λ k. ap f (omega arith))
