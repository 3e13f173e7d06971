-- `fir_lowpass::lowpass::build` meets its contract. Assumes nothing.
use mathlib.Core.Path.{◌≡◌, sym, ap, ◌∙◌}
use Rattle.fir_cache.specs.Cached.{SumCached}
use Rattle.fir_sinc.specs.Taps.{raw_at}
use Rattle.fir_lowpass.specs.Lowpass.{divisor_of, usable}
use Rattle.fir_lowpass.proofs.LowpassLaws.{no_divisor, accepts}
use Rattle.fir_design.specs.DesignsLaws.{prepares_refusal}
use Rattle.fir_lowpass.proofs.lowpass.build.Goals as goal

pub returns-then-not-is_usable : goal.returns-then-not-is_usable
unfolding divisor_of
returns-then-not-is_usable c =
    let totals : (let a = c.args in SumCached (raw_at a.fc a.window a.i0 a.n) a.n c.total-sum.result c.total-sum.new.raws) = c.total-sum.ensures.summed c.requires in
    let divided : (let a = c.args in c.total-sum.result ≡ divisor_of a.fc a.window a.i0 a.n) = totals.is in
    let a = c.args in
    prepares_refusal _ _ _ (no_divisor a.fc a.window a.i0 a.n (ap usable (sym divided) ∙ sym c.is_usable.ensures ∙ c.if-not-is_usable.true))

pub returns : goal.returns
unfolding divisor_of
returns c =
    let totals : (let a = c.args in SumCached (raw_at a.fc a.window a.i0 a.n) a.n c.total-sum.result c.total-sum.new.raws) = c.total-sum.ensures.summed c.requires in
    let divided : (let a = c.args in c.total-sum.result ≡ divisor_of a.fc a.window a.i0 a.n) = totals.is in
    let a = c.args in
    accepts a.fc a.window a.i0 a.n c.total-sum.result _ divided totals.keeps (ap usable (sym divided) ∙ sym c.is_usable.ensures ∙ c.if-not-is_usable.false)
