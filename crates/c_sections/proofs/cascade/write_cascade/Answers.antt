-- `c_sections::cascade::write_cascade` meets its contract: what `judge` answers, and then the part of the array that
-- `butterworth_sos` fills. Assumes nothing.
use Rattle.std.specs.Prelude.{Ok, Result}
use mathlib.Core.Path.{◌≡◌, sym, ap, ◌∙◌, subst}
use mathlib.Core.List.{List}
use Prim.Native.Nat.{ℕ, ◌≤◌}
use native.Mathlib.Omega.{arith}
use lib.ListN.{length, get_or}
use lib.Seq.{length-take-le}
use lib.Ieee.{Float, nan}
use Rattle.laws.specs.Binary64.{whole}
use Rattle.laws.specs.Chunks.{chunks, chunks_below}
use Rattle.laws.specs.Filled.{tabulate, length_tabulate, get_d_tabulate}
use Rattle.wire.specs.Bytes.{float_bytes}
use Rattle.wire.specs.Writes.{Writes}
use Rattle.wire.proofs.WritesLaws.{fills}
use Rattle.verdict.specs.declared.Refusal.{Refusal}
use Rattle.verdict.specs.declared.Report.{Report}
use Rattle.verdict.specs.Report.{accepted_of}
use Rattle.verdict.specs.Outcome.{Outcome, stored, Fills}
use Rattle.iir_biquad.specs.declared.biquad.Response.{Response}
use Rattle.iir_butterworth.specs.Butterworth.{coef_at, butterworth_of}
use Rattle.iir_butterworth.specs.SectionLaws.{Right, right}
use Rattle.c_sections.specs.Numbers.{numbers_of}
use Rattle.c_sections.proofs.cascade.write_cascade.Goals as goal

-- ---- a filter that is judged right
module _ {response : Response} {order : ℕ} {cutoff rate : Float} {n : ℕ} (taken : Right response order cutoff rate n) where
  few : n ≤ 20
  few = let t = taken in omega arith

  -- its numbers, where they fill a list of as many
  listed : (d : List Float) {r : Result (Unit {0}) Refusal} {after : List Float} → length d ≡ n → Fills (butterworth_of response order cutoff rate (length d)) d r after → after ≡ tabulate n (coef_at response order cutoff rate)
  listed d l h =
      h.buffer
      ∙ ap (λ (k : ℕ). stored (butterworth_of response order cutoff rate k) d) l
      ∙ ap (λ (o : Outcome). stored o d) taken.is
      ∙ ap (λ (k : ℕ). tabulate k (coef_at response order cutoff rate)) l

  -- and where they are written from such a list
  writes_listed : {xs : List Float} {before after : List ℕ} {r : Report} → xs ≡ tabulate n (coef_at response order cutoff rate) → Writes float_bytes (numbers_of (Ok tt) xs) before r after → Writes float_bytes (butterworth_of response order cutoff rate n) before r after
  writes_listed {xs} {before} {after} {r} e h =
      let f = coef_at response order cutoff rate in
      let w = subst (λ (l : List Float). Writes float_bytes (numbers_of (Ok tt) l) before r after) e h in
      let l = length_tabulate n f in
      fills taken.is (w.answer ∙ ap (λ (k : ℕ). accepted_of k (whole 0)) l)
      (w.buffer
      ∙ ap (λ (k : ℕ). chunks k (λ i. float_bytes (get_or (tabulate n f) i nan))) l
      ∙ chunks_below n (λ i. float_bytes (get_or (tabulate n f) i nan)) (λ i. float_bytes (f i)) (λ i h. ap float_bytes (get_d_tabulate n f i nan h)))

pub slice_bounds-room-end : goal.slice_bounds-room-end
slice_bounds-room-end c =
    let a = c.args in
    few (right a.response a.order a.cutoff a.rate _ (sym c.in_default.is ∙ c.judge.ensures))

pub slice_bounds-numbers-end : goal.slice_bounds-numbers-end
slice_bounds-numbers-end c =
    let a = c.args in
    sym (length-take-le _ _ (few (right a.response a.order a.cutoff a.rate _ (sym c.in_default.is ∙ c.judge.ensures))))

pub write_numbers-requires : goal.write_numbers-requires
write_numbers-requires c =
    let a = c.args in
    let taken = right a.response a.order a.cutoff a.rate _ (sym c.in_default.is ∙ c.judge.ensures) in
    let count = ap length (listed taken _ (length-take-le _ _ (few taken)) c.butterworth_sos.ensures) ∙ length_tabulate _ _ in
    omega (arith, c.requires, count)

pub returns : goal.returns
returns c =
    let a = c.args in
    let taken = right a.response a.order a.cutoff a.rate _ (sym c.in_default.is ∙ c.judge.ensures) in
    writes_listed taken (listed taken _ (length-take-le _ _ (few taken)) c.butterworth_sos.ensures) c.write_numbers.ensures
