-- `fir_gaussian::gaussian_design::total` meets its contract. The loop's invariant: the sum of the taps so far, and the
-- first of them kept. Assumes nothing.
use Rattle.std.proofs.Common.{◌≡◌, ℕ, ◌+◌, List, length, sym, refl, ap, ◌∙◌, subst, arith, length-set}
use lib.Ieee.{Float, binary64, add}
use Rattle.fir_cache.specs.Cached.{SumCached}
use Rattle.fir_cache.specs.CachedLaws.{sum_cached_none, sum_cached_more}
use Rattle.fir_gaussian.specs.Gaussian.{raw_at}
use Rattle.fir_gaussian.proofs.gaussian_design.total.Goals as goal

pub loop-i-init : goal.loop-i-init
loop-i-init c =
    let a = c.args in
    (refl, sum_cached_none (raw_at a.a a.sps a.mid) a.raws.now)

pub loop-i-preserved : goal.loop-i-preserved
loop-i-preserved c =
    let a = c.args in
    let g = raw_at a.a a.sps a.mid in (
      ap length c.keep.ensures ∙ length-set c.loop-i.raws c.loop-i.i c.raw_at-v.result ∙ c.loop-i.invariant.0,
      subst (λ (rs : List Float). SumCached g (c.loop-i.i + 1) (add binary64 c.loop-i.sum c.raw_at-v.result) rs) (sym c.keep.ensures)
          (sum_cached_more g c.loop-i.i c.loop-i.sum c.loop-i.raws c.raw_at-v.result c.raw_at-v.ensures c.loop-i.invariant.1),
    )

pub shape_of-raws : goal.shape_of-raws
shape_of-raws c = c.loop-i.invariant.0

pub returns : goal.returns
returns c =
    let a = c.args in
    let e : c.loop-i.i ≡ a.n = omega arith in
    subst (λ (k : ℕ). SumCached (raw_at a.a a.sps a.mid) k c.loop-i.sum c.loop-i.raws) e c.loop-i.invariant.1
