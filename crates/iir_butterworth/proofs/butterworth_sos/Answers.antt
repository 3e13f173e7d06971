-- `iir_butterworth::butterworth_sos` meets its contract: what `judge` answers, and then the loop. Its invariant: the
-- sections so far stand at the front. Assumes nothing.
use Rattle.std.specs.Prelude.{Err}
use Rattle.std.proofs.Common.{rules}
use mathlib.Core.Path.{◌≡◌, sym, ap, ◌∙◌}
use mathlib.Core.List.{List}
use Prim.Native.Nat.{ℕ, ◌*◌, ◌≤◌}
use native.Mathlib.Omega.{arith}
use lib.ListN.{length}
use lib.Seq.{sets}
use lib.Ieee.{Float}
use Rattle.laws.specs.Filled.{tabulate, filled, fill_none, fill_all, length_filled}
use Rattle.verdict.specs.OutcomeLaws.{fills, leaves}
use Rattle.iir_butterworth.specs.Butterworth.{coef_at}
use Rattle.iir_butterworth.specs.SectionLaws.{section_stored, Right, right, turned}
use Rattle.iir_butterworth.proofs.butterworth_sos.Goals as goal

pub loop-i-init : goal.loop-i-init
loop-i-init c = (omega arith, fill_none _ _)

pub invariant_of-section : goal.invariant_of-section
invariant_of-section c =
    let told : (let a = c.args in Right a.response a.order a.cutoff a.rate (length a.sos.now)) = let a = c.args in right a.response a.order a.cutoff a.rate (length a.sos.now) (sym c.in_ok-judge.was ∙ c.judge.ensures) in
    let few : c.sections-count.result ≤ 4 = let o = told.taken in
    omega arith in
    let n = few in
    record { order_high = told.taken.most; i_high = omega arith }

pub overflow_mul-i : goal.overflow_mul-i
overflow_mul-i c =
    let told : (let a = c.args in Right a.response a.order a.cutoff a.rate (length a.sos.now)) = let a = c.args in right a.response a.order a.cutoff a.rate (length a.sos.now) (sym c.in_ok-judge.was ∙ c.judge.ensures) in
    let few : c.sections-count.result ≤ 4 = let o = told.taken in
    omega arith in
    let n = few in omega arith

pub put_section-requires : goal.put_section-requires
put_section-requires c =
    let told : (let a = c.args in Right a.response a.order a.cutoff a.rate (length a.sos.now)) = let a = c.args in right a.response a.order a.cutoff a.rate (length a.sos.now) (sym c.in_ok-judge.was ∙ c.judge.ensures) in
    let counted : c.sections-count.result * 5 ≡ length c.args.sos.now = let t = told in ap (λ (n : ℕ). n * 5) c.sections-count.ensures ∙ sym t.count in
    let as_long : length c.loop-i.sos ≡ length c.args.sos.now = let n = counted in
    ap length c.loop-i.invariant.1 ∙ length_filled _ _ _ (omega arith) in
    let n = counted in
    let l = as_long in
    omega arith

pub overflow_step-i : goal.overflow_step-i
overflow_step-i c =
    let told : (let a = c.args in Right a.response a.order a.cutoff a.rate (length a.sos.now)) = let a = c.args in right a.response a.order a.cutoff a.rate (length a.sos.now) (sym c.in_ok-judge.was ∙ c.judge.ensures) in
    let few : c.sections-count.result ≤ 4 = let o = told.taken in
    omega arith in
    let n = few in omega arith

pub loop-i-preserved : goal.loop-i-preserved
loop-i-preserved c =
    let told : (let a = c.args in Right a.response a.order a.cutoff a.rate (length a.sos.now)) = let a = c.args in right a.response a.order a.cutoff a.rate (length a.sos.now) (sym c.in_ok-judge.was ∙ c.judge.ensures) in
    let counted : c.sections-count.result * 5 ≡ length c.args.sos.now = let t = told in ap (λ (n : ℕ). n * 5) c.sections-count.ensures ∙ sym t.count in
    let a = c.args in
    let n = counted in
    let f = coef_at a.response a.order a.cutoff a.rate in (
      omega arith,
      c.put_section.ensures
          ∙ ap (λ (l : List Float). sets l (5 * c.loop-i.i) c.numbers.result) c.loop-i.invariant.1
          ∙ ap (sets (filled (5 * c.loop-i.i) f a.sos.now) (5 * c.loop-i.i)) c.numbers.ensures
          ∙ section_stored a.response a.order a.cutoff a.rate c.loop-i.i a.sos.now (omega arith),
    )

pub shape_of-sos : goal.shape_of-sos
shape_of-sos c =
    let told : (let a = c.args in Right a.response a.order a.cutoff a.rate (length a.sos.now)) = let a = c.args in right a.response a.order a.cutoff a.rate (length a.sos.now) (sym c.in_ok-judge.was ∙ c.judge.ensures) in
    let counted : c.sections-count.result * 5 ≡ length c.args.sos.now = let t = told in ap (λ (n : ℕ). n * 5) c.sections-count.ensures ∙ sym t.count in
    let as_long : length c.loop-i.sos ≡ length c.args.sos.now = let n = counted in
    ap length c.loop-i.invariant.1 ∙ length_filled _ _ _ (omega arith) in
    as_long

pub returns : goal.returns
returns c =
    let told : (let a = c.args in Right a.response a.order a.cutoff a.rate (length a.sos.now)) = let a = c.args in right a.response a.order a.cutoff a.rate (length a.sos.now) (sym c.in_ok-judge.was ∙ c.judge.ensures) in
    let counted : c.sections-count.result * 5 ≡ length c.args.sos.now = let t = told in ap (λ (n : ℕ). n * 5) c.sections-count.ensures ∙ sym t.count in
    let a = c.args in
    let t = told in
    let m = counted in
    let n : 5 * c.loop-i.i ≡ length a.sos.now = omega arith in
    let f = coef_at a.response a.order a.cutoff a.rate in
    fills t.is (c.loop-i.invariant.1 ∙ fill_all (5 * c.loop-i.i) f a.sos.now (omega arith) ∙ ap (λ (k : ℕ). tabulate k f) n)

pub returns-in_err-judge : goal.returns-in_err-judge
returns-in_err-judge c =
    let refused : c.from_residual.result ≡ Err c.in_err-judge.field-0.0 = search rules in
    rw refused (leaves _ (turned _ _ (sym c.in_err-judge.was ∙ c.judge.ensures)))
