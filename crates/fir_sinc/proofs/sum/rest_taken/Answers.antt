-- `fir_sinc::sum::rest_taken` meets its contract: one tap more a turn. Assumes nothing.
use mathlib.Core.Path.{refl}
use native.Mathlib.Omega.{arith}
use Rattle.fir_cache.specs.CachedLaws.{taken, all}
use Rattle.fir_sinc.proofs.sum.rest_taken.Goals as goal

pub loop-i-init : goal.loop-i-init
loop-i-init c = record { within = c.requires.from_high; same = refl; summed = c.requires.sum_cached }

pub loop-i-preserved : goal.loop-i-preserved
loop-i-preserved c = taken c.loop-i.invariant (omega arith) c.raw_at-v.ensures c.take-sum.ensures

pub shape_of-raws : goal.shape_of-raws
shape_of-raws c = c.loop-i.invariant.same

pub returns : goal.returns
returns c = all c.loop-i.invariant (omega arith)
