-- `fir_sinc::sum::summed` meets its contract. The invariant: the sum of the taps so far, the first of them kept, what
-- they are without their window, and the arguments of the next two. Assumes nothing.
use mathlib.Core.Path.{◌≡◌, refl, ap, ◌∙◌}
use Prim.Native.Nat.{ℕ, ◌+◌}
use native.Mathlib.Omega.{arith}
use lib.Ieee.{Float}
use Rattle.win_shapes.specs.Steps.{argument_of}
use Rattle.fir_sinc.specs.StepLaws.{place_at, curve_of, windowed, raw_is}
use Rattle.fir_sinc.specs.Taps.{raw_at}
use Rattle.fir_cache.specs.CachedLaws.{sum_cached_none}
use Rattle.fir_sinc.specs.Pending.{two_more, pending_none}
use Rattle.fir_sinc.proofs.sum.summed.Goals as goal

pub loop-i-init : goal.loop-i-init
loop-i-init c =
    let a = c.args in (
      c.plan_of-plan.ensures,
      record { within = omega arith; same = refl; summed = sum_cached_none (raw_at a.fc a.w a.i0 a.n) a.raws.now },
      λ k l m. absurd (omega arith),
      c.arguments_of-begun.ensures.first ∙ ap (λ (p : Float). argument_of (curve_of a.w) p) c.place_at.ensures,
      c.arguments_of-begun.ensures.second ∙ ap (λ (p : Float). argument_of (curve_of a.w) p) c.place_at-2.ensures,
    )

pub overflow_add-i : goal.overflow_add-i
overflow_add-i c = omega (arith, c.loop-i.invariant.1.within)

pub overflow_add-i-in-loop-i : goal.overflow_add-i-in-loop-i
overflow_add-i-in-loop-i c = omega (arith, c.loop-i.invariant.0.within)

pub place_at-requires-in-loop-i : goal.place_at-requires-in-loop-i
place_at-requires-in-loop-i c =
    let f = c.loop-i.invariant.0.within in
    record { n_low = omega arith; n_high = omega arith; i_high = omega arith }

pub overflow_add-i-in-loop-i-2 : goal.overflow_add-i-in-loop-i-2
overflow_add-i-in-loop-i-2 c = omega (arith, c.loop-i.invariant.0.within)

pub place_at-requires-in-loop-i-2 : goal.place_at-requires-in-loop-i-2
place_at-requires-in-loop-i-2 c =
    let f = c.loop-i.invariant.0.within in
    record { n_low = omega arith; n_high = omega arith; i_high = omega arith }

pub ideal_at-a-requires : goal.ideal_at-a-requires
ideal_at-a-requires c =
    let f = c.loop-i.invariant.0.within in
    record { n_high = omega arith; i_high = omega arith }

pub overflow_add-i-in-loop-i-3 : goal.overflow_add-i-in-loop-i-3
overflow_add-i-in-loop-i-3 c = omega (arith, c.loop-i.invariant.0.within)

pub ideal_at-b-requires : goal.ideal_at-b-requires
ideal_at-b-requires c =
    let f = c.loop-i.invariant.0.within in
    record { n_high = omega arith; i_high = omega arith }

pub take_two-sum-requires : goal.take_two-sum-requires
take_two-sum-requires c =
    let p = c.loop-i.invariant.0 in
    record { i_high = omega (arith, p.apart, c.loop-i-test.true); last_high = p.small }

pub overflow_add-i-in-loop-i-4 : goal.overflow_add-i-in-loop-i-4
overflow_add-i-in-loop-i-4 c = let l = c.loop-i-test.true in omega (arith, c.loop-i.invariant.0.within)

pub loop-i-smaller : goal.loop-i-smaller
loop-i-smaller c = let l = c.loop-i-test.true in omega (arith, c.loop-i.invariant.0.within)

pub loop-i-preserved : goal.loop-i-preserved
loop-i-preserved c =
    let a = c.args in
    let i = c.loop-i.i in
    let t = c.loop-i.invariant in
    let l = c.loop-i-test.true in
    let f = t.0.within in
    let many : a.n ≡ 1 → ⊥ = λ (e : a.n ≡ 1). omega arith in
    let three : i + 3 ≡ i + 2 + 1 = omega arith in
    let first = raw_is a.fc a.w a.i0 a.n i c.ideal_at-a.ensures (windowed a.w a.i0 a.n i many t.3 c.values_of-two.ensures.first) in
    let second = raw_is a.fc a.w a.i0 a.n (i + 1) c.ideal_at-b.ensures (windowed a.w a.i0 a.n (i + 1) many t.4 c.values_of-two.ensures.second) in
    let two = two_more t.0 l t.1 t.2 first second c.ideal_at-a.ensures c.ideal_at-b.ensures (c.take_two-sum.ensures.answer, c.take_two-sum.ensures.buffer) in (
      t.0,
      two.0,
      two.1,
      c.arguments_of-next.ensures.first ∙ ap (λ (p : Float). argument_of (curve_of a.w) p) c.place_at-in-loop-i.ensures,
      c.arguments_of-next.ensures.second ∙ ap (λ (p : Float). argument_of (curve_of a.w) p) (c.place_at-in-loop-i-2.ensures ∙ ap (λ (k : ℕ). place_at a.w a.n k) three),
    )

pub rest_cached-requires : goal.rest_cached-requires
rest_cached-requires c =
    let t = c.loop-i.invariant in
    record { n_high = omega arith; from_high = t.1.within; begun_is = t.1.summed.is; pending_tap = pending_none t.0 (omega arith) t.1.within (omega arith) t.1.summed.keeps t.2 }

pub rest_taken-requires : goal.rest_taken-requires
rest_taken-requires c =
    let t = c.loop-i.invariant.1 in
    record { n_high = omega arith; from_high = t.within; sum_cached = t.summed }

pub shape_of-raws-then-n-raws : goal.shape_of-raws-then-n-raws
shape_of-raws-then-n-raws c = c.raws-then-n-raws-1.given ∙ c.loop-i.invariant.1.same

pub returns-then-n-raws : goal.returns-then-n-raws
returns-then-n-raws c = c.rest_cached.ensures

pub shape_of-raws-else-n-raws : goal.shape_of-raws-else-n-raws
shape_of-raws-else-n-raws c = c.raws-else-n-raws-1.given ∙ c.loop-i.invariant.1.same

pub returns-else-n-raws : goal.returns-else-n-raws
returns-else-n-raws c = c.rest_taken.ensures
