-- `fir_sinc::sum::sum_on` meets its contract: one element more a turn. Assumes nothing.
use mathlib.Core.Path.{◌≡◌, subst}
use Prim.Native.Nat.{ℕ}
use native.Mathlib.Omega.{arith}
use Rattle.fir_cache.specs.Cached.{Adds}
use Rattle.fir_cache.specs.CachedLaws.{adds_more}
use Rattle.fir_sinc.proofs.sum.sum_on.Goals as goal

pub loop-i-init : goal.loop-i-init
loop-i-init c = (c.requires.from_high, λ g e k. e)

pub loop-i-preserved : goal.loop-i-preserved
loop-i-preserved c =
    let a = c.args in
    (omega arith, adds_more a.list.now a.begun c.loop-i.sum a.from c.loop-i.i c.loop-i.invariant.1 (omega arith))

pub returns : goal.returns
returns c =
    let a = c.args in
    let e : c.loop-i.i ≡ a.n = omega (arith, c.loop-i.invariant.0) in
    subst (λ (k : ℕ). Adds a.list.now a.begun a.from c.loop-i.sum k) e c.loop-i.invariant.1
