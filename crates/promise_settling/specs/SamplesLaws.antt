-- An accepted Kaiser window has finite samples, since every series that it takes has settled. Assumes nothing.
use Rattle.std.specs.Prelude.{ℕ, ◌-◌, ◌/◌, ◌%◌, ◌<◌, ◌≡◌, refl, Bool, true, false, cond, ◌&&◌, ◌||◌, List, T, eqb, length, Float, Err, Ok, Option, Result, Some}
use Rattle.std.proofs.Common.{sym, ap, ◌∙◌, arith}
use Rattle.laws.specs.Binary64.{whole}
use Rattle.laws.specs.Every.{every, every_at}
use Rattle.laws.specs.Tests.{both}
use Rattle.laws.specs.Under.{natural}
use Rattle.laws.specs.Results.{refused_never}
use Rattle.math_bessel.specs.Series.{series_of, settled}
use Rattle.math_settling.specs.Steps.{one_natural}
use Rattle.verdict.specs.Report.{report_of, accepted_of}
use Rattle.verdict.specs.Reports.{outcome_report}
use Rattle.verdict.specs.Outcome.{Outcome, where_passed}
use Rattle.verdict.specs.declared.Refusal.{Refusal}
use Rattle.verdict.specs.declared.Refusal.TheVariants.{Plain, Length}
use Rattle.verdict.specs.declared.Report.{Report}
use Rattle.wire.specs.Writes.{Writes}
use Rattle.win_shapes.specs.Windows.{kaiser_radicand, kaiser_argument, kaiser_value, kaiser_at}
use Rattle.win_settling.specs.Settling.{element_settles, kaiser_settles}
use Rattle.win_settling.specs.Values.{value_natural}
use Rattle.win_sampled.specs.Shapes.{shape_taken, norm_of, divisor_of, shape_at, sample_at, window_at, series_settle, judgement_of}
use Rattle.win_sampled.specs.declared.shape.Shape.TheVariants.{Kaiser}
use Rattle.win_sampled.specs.declared.shape.Symmetry.{Symmetry}
use Rattle.c_windows.specs.Samples.{width_of, sample_bytes, window_bytes}
use Rattle.c_windows.specs.declared.sample.Sample.{Sample}
use Rattle.promise_refusals.specs.Listed.{Listed}
use Rattle.promise_refusals.proofs.ListedLaws.{never_zero}
use Rattle.promise_refusals.specs.Judgements.{window_listed}
use Rattle.promise_settling.specs.Settling.{FiniteSamples}
use Rattle.verdict.specs.declared.Reason.TheVariants as Reason

-- ---- a sample, where every series has settled; i0 is the series at beta
settled_sample : (beta : Float) (d n i : ℕ) → kaiser_settles beta d n ≡ true → i < n → T (natural (sample_at (Kaiser beta) (norm_of (Kaiser beta)) d i))
unfolding kaiser_settles sample_at shape_at kaiser_at norm_of
settled_sample beta d n i s l = go (eqb d 0) s
  where
    x : Float
    x = kaiser_argument beta (kaiser_radicand (whole i) (whole d))

    go : (b : Bool) → (b || (settled beta && every n (element_settles beta d))) ≡ true → T (natural (cond b (whole 1) (kaiser_value (series_of beta).sum x)))
    go true s = one_natural
    go false s =
        let t = both (settled beta) (every n (element_settles beta d)) s in
        value_natural beta x t.0 (every_at n (element_settles beta d) t.1 i l)

-- ---- a window that passes
passes : (beta : Float) (symmetry : Symmetry) (n : ℕ) → judgement_of (Kaiser beta) symmetry n ≡ Ok tt → kaiser_settles beta (divisor_of symmetry n) n ≡ true
unfolding judgement_of series_settle
passes beta symmetry n e = go (shape_taken (Kaiser beta)) (kaiser_settles beta (divisor_of symmetry n) n) e
  where
    go : (a b : Bool) → cond a (cond b (Ok tt) (Err (Plain Reason.Unsettled))) (Err (Plain Reason.Attenuation)) ≡ Ok (tt {0}) → b ≡ true
    go true true e = refl
    go true false e = absurd (refused_never e)
    go false b e = absurd (refused_never e)

-- ---- an answer
pub finite_samples : (s : Sample) (beta : Float) (c : Option Symmetry) {before after : List ℕ} {r : Report} → Writes (sample_bytes s) (window_bytes s (Kaiser beta) c (length before)) before r after → FiniteSamples beta c (length before / width_of s) r
unfolding accepted_of report_of
finite_samples s beta c {before} w symmetry known zero i l =
    settled_sample beta (divisor_of symmetry n) n i (passes beta symmetry n (go (eqb (len % width_of s) 0) (judgement_of (Kaiser beta) symmetry n) (window_listed (Kaiser beta) symmetry n) refl told)) l
  where
    len : ℕ
    len = length before

    n : ℕ
    n = len / width_of s

    told : (outcome_report (window_bytes s (Kaiser beta) (Some symmetry) len)).number ≡ 0
    told = ap (λ (k : Option Symmetry). (outcome_report (window_bytes s (Kaiser beta) k len)).number) (sym known) ∙ sym (ap (λ (z : Report). z.number) w.answer) ∙ zero

    go : (b : Bool) (v : Result (Unit {0}) Refusal) → Listed v → judgement_of (Kaiser beta) symmetry n ≡ v → (outcome_report (cond b (where_passed v (Outcome.Designed n (whole 0) (window_at (Kaiser beta) symmetry n))) (Outcome.Refused (Length (len - len % width_of s) len)))).number ≡ 0 → judgement_of (Kaiser beta) symmetry n ≡ Ok tt
    go true (Ok tt) m e z = e
    go true (Err why) m e z = absurd (never_zero (report_of why).number m z)
    go false v m e z = absurd (omega (arith, z))
