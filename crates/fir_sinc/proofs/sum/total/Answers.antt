-- `fir_sinc::sum::total` meets its contract: no taps sum to 0, too many are left alone. Assumes nothing.
use mathlib.Core.Path.{◌≡◌, refl, subst}
use Prim.Native.Nat.{ℕ}
use native.Mathlib.Omega.{arith}
use lib.Ieee.{of_bits, of_int, binary64}
use Rattle.fir_sinc.specs.Taps.{raw_at}
use Rattle.fir_cache.specs.Cached.{SumCached}
use Rattle.fir_cache.specs.CachedLaws.{sum_cached_none}
use Rattle.fir_sinc.proofs.sum.total.Goals as goal

pub returns-then-n-gt-TAP_LIMIT : goal.returns-then-n-gt-TAP_LIMIT
unfolding of_int of_bits
returns-then-n-gt-TAP_LIMIT c = record { summed = λ h. absurd (omega arith); too_many = λ h. refl; too_many_kept = λ h. refl }

pub returns-then-n-eq0 : goal.returns-then-n-eq0
unfolding of_int of_bits
returns-then-n-eq0 c =
    let a = c.args in
    let g = raw_at a.fc a.w a.i0 a.n in
    let none : 0 ≡ a.n = omega arith in
    record { summed = λ h. subst (λ (k : ℕ). SumCached g k (of_bits binary64 0) a.raws.now) none (sum_cached_none g a.raws.now); too_many = λ h. absurd (omega arith); too_many_kept = λ h. absurd (omega arith) }

pub returns : goal.returns
returns c =
    let l = c.if-n-gt-TAP_LIMIT.false in
    record { summed = λ h. c.summed.ensures; too_many = λ h. absurd (omega arith); too_many_kept = λ h. absurd (omega arith) }
