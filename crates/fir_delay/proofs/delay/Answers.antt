-- `fir_delay::delay` meets its contract. Assumes nothing.
use Rattle.std.specs.Prelude.{Ok}
use mathlib.Core.Path.{◌≡◌, refl, sym, ap}
use Prim.Native.Nat.{ℕ, zero, suc, ◌-◌}
use native.Mathlib.Omega.{arith}
use Rattle.fir_delay.specs.Delay.{delay_of}
use Rattle.fir_delay.proofs.delay.Goals as goal

some : (n : ℕ) → (n ≡ 0 → ⊥) → Ok (record { count = n - 1 }) ≡ delay_of n
unfolding delay_of
some zero h = absurd (h refl)
some (suc n) h = ap (λ (m : ℕ). Ok (record { count = m })) (go n)
  where
    go : (n : ℕ) → suc n - 1 ≡ n
    go n = omega arith

pub returns-then-n-eq0 : goal.returns-then-n-eq0
unfolding delay_of
returns-then-n-eq0 c = sym (ap delay_of c.if-n-eq0.true)

pub returns : goal.returns
returns c = some c.args.n c.if-n-eq0.false
