-- No low-pass, half-band or window with a beta from 0 to 713 is told 16: every other way out of its judgement has another
-- number. Assumes nothing.
use Prim.Native.Nat.{ℕ, zero, suc, ◌-◌, ◌/◌, ◌%◌}
use Rattle.std.specs.Prelude.{◌≡◌, refl, Bool, true, false, not, cond, List, T, eqb, length, Float, Err, None, Ok, Option, Result, Some}
use Rattle.std.proofs.Common.{sym, ap, ◌∙◌, subst, true≢false}
use Rattle.std.specs.Float.Ieee.{le}
use Rattle.laws.specs.Binary64.{◌⊘◌, whole, fraction}
use Rattle.laws.specs.Cases.{either_way}
use Rattle.math_numbers.specs.Numbers.{positive}
use Rattle.verdict.specs.Numbers.{not_settled}
use Rattle.verdict.specs.Report.{report_of}
use Rattle.verdict.specs.Outcome.{Outcome, answered, where_passed}
use Rattle.verdict.specs.declared.Refusal.TheVariants as Refusal
use Rattle.verdict.specs.declared.Report.{Report}
use Rattle.wire.specs.Bytes.{float_bytes}
use Rattle.wire.specs.Writes.{whole_elements, Writes}
use Rattle.win_settling.specs.SettlingLaws.{settles_to_713}
use Rattle.win_sampled.specs.Shapes.{shape_taken, divisor_of, window_at, judgement_of}
use Rattle.win_sampled.specs.Shapes as Shapes
use Rattle.win_sampled.specs.declared.shape.Shape.{Shape}
use Rattle.win_sampled.specs.declared.shape.Symmetry.{Symmetry}
use Rattle.fir_sinc.specs.Windows.{norm_of}
use Rattle.fir_sinc.specs.declared.window.Window.{Window}
use Rattle.fir_sinc.specs.declared.window.Window.TheVariants.{Kaiser}
use Rattle.fir_lowpass.specs.Lowpass as Lowpass
use Rattle.fir_halfband.specs.Halfband as Halfband
use Rattle.ticket_codes.specs.Codes.{window_of}
use Rattle.c_lowpass.specs.Lowpass.{lowpass_bytes}
use Rattle.c_pulses.specs.Buffers.{halfband_bytes}
use Rattle.c_windows.specs.Samples.{width_of, sample_bytes, window_bytes}
use Rattle.c_windows.specs.declared.sample.Sample.{Sample}
use Rattle.promise_refusals.specs.Listed.{heard}
use Rattle.promise_refusals.proofs.ListedLaws.{outcome_heard}
use Rattle.promise_settling.specs.Settling.{TakenTo713}
use Rattle.fir_halfband.specs.declared.HalfbandDesign.{HalfbandDesign}
use Rattle.fir_lowpass.specs.declared.lowpass.Lowpass.{Lowpass}
use Rattle.verdict.specs.declared.Refusal.{Refusal}

-- ---- a verdict that isn't 16
abbrev Spared : Result (Unit {0}) Refusal → Type 0
Spared v = T (not (eqb (heard v) not_settled))

-- the first of two, where its test holds
where_so : {D : Type 0} (P : D → Type 0) (b : Bool) (x y : D) → b ≡ true → P x → P (cond b x y)
where_so P true x y e p = p
where_so P false x y e p = absurd (true≢false (sym e))

spared_whole : (w len : ℕ) (o : Outcome) → Spared (answered o) → Spared (answered (whole_elements w len o))
unfolding report_of
spared_whole w len o s = either_way (λ (p : Outcome). Spared (answered p)) (eqb (len % w) 0) o (Outcome.Refused (Refusal.Length (len - len % w) len)) s tt

-- so what is told isn't either
spared_told : {bytes : Float → List ℕ} {o : Outcome} {before after : List ℕ} {r : Report} → Writes bytes o before r after → Spared (answered o) → r.number ≡ not_settled → ⊥
spared_told {o = o} w s e =
    let told = ap (λ (z : Report). z.number) w.answer ∙ outcome_heard o in
    subst (λ (k : ℕ). T (not (eqb k not_settled))) (sym told ∙ e) s

-- ---- the low-pass
abbrev LowpassSpared : Result Lowpass Refusal → Type 0
LowpassSpared d = Spared (answered (Lowpass.outcome_of d))

passed_spared : (v : Result (Unit {0}) Refusal) (d : Result Lowpass Refusal) → Spared v → LowpassSpared d → LowpassSpared (Lowpass.where_passed v d)
passed_spared (Ok tt) d l x = x
passed_spared (Err why) d l x = l

module _ (cutoff rate : Float) (w : Window) (n : ℕ) (e : Lowpass.series_settle w n ≡ true) where
  judgement_spared : Spared (Lowpass.judgement_of cutoff rate w n)
  unfolding Lowpass.judgement_of report_of
  judgement_spared =
      let way = either_way Spared in
      way (positive rate) _ _ (way (Lowpass.inside (cutoff ⊘ rate)) _ _ (way (Lowpass.count_taken n) _ _ (way (Lowpass.beta_taken w) _ _ (where_so Spared (Lowpass.series_settle w n) _ _ e tt) tt) tt) tt) tt

  lowpass_spared : LowpassSpared (Lowpass.lowpass_of cutoff rate w n)
  unfolding Lowpass.lowpass_of Lowpass.lowpass_with Lowpass.design_of report_of
  lowpass_spared = passed_spared (Lowpass.judgement_of cutoff rate w n) _ judgement_spared (either_way LowpassSpared (Lowpass.usable (Lowpass.divisor_of (cutoff ⊘ rate) w (norm_of w) n)) _ _ tt tt)

-- ---- with a beta from 0 to 713
module _ (beta : Float) (s : T (le (whole 0) beta)) (t : T (le beta (whole 713))) where
  kaiser_settles : (n : ℕ) → Lowpass.series_settle (Kaiser beta) n ≡ true
  unfolding Lowpass.series_settle
  kaiser_settles n = settles_to_713 beta (n - 1) n s t

  by_code : (cutoff rate : Float) (code len : ℕ) → Spared (answered (lowpass_bytes cutoff rate (window_of code beta) len))
  unfolding window_of Lowpass.series_settle report_of
  by_code cutoff rate zero len = spared_whole 8 len _ (lowpass_spared cutoff rate _ (len / 8) refl)
  by_code cutoff rate (suc zero) len = spared_whole 8 len _ (lowpass_spared cutoff rate _ (len / 8) refl)
  by_code cutoff rate (suc (suc zero)) len = spared_whole 8 len _ (lowpass_spared cutoff rate _ (len / 8) refl)
  by_code cutoff rate (suc (suc (suc zero))) len = spared_whole 8 len _ (lowpass_spared cutoff rate (Kaiser beta) (len / 8) (kaiser_settles (len / 8)))
  by_code cutoff rate (suc (suc (suc (suc code)))) len = tt

  -- the half-band, over its low-pass
  of_quarter : (n : ℕ) (q : Result Lowpass Refusal) → LowpassSpared q → Spared (answered (Halfband.outcome_of (Halfband.halfband_in n q)))
  unfolding report_of
  of_quarter n (Ok l) x = either_way (λ (d : Result HalfbandDesign Refusal). Spared (answered (Halfband.outcome_of d))) (Lowpass.usable (Halfband.divisor_of l n)) _ _ tt tt
  of_quarter n (Err why) x = x

  halfband_spared : (n : ℕ) → Spared (answered (Halfband.outcome_of (Halfband.halfband_of beta n)))
  unfolding Halfband.halfband_of report_of
  halfband_spared n =
      either_way (λ (d : Result HalfbandDesign Refusal). Spared (answered (Halfband.outcome_of d))) (Halfband.length_taken n) _ _ (of_quarter n (Halfband.quarter_of beta n) (lowpass_spared (fraction 1 4) (whole 1) (Kaiser beta) n (kaiser_settles n))) tt

  -- the window
  window_spared : (symmetry : Symmetry) (n : ℕ) → Spared (judgement_of (Shape.Kaiser beta) symmetry n)
  unfolding judgement_of Shapes.series_settle report_of
  window_spared symmetry n =
      either_way Spared (shape_taken (Shape.Kaiser beta)) _ _ (where_so Spared (Shapes.series_settle (Shape.Kaiser beta) (divisor_of symmetry n) n) _ _ (settles_to_713 beta (divisor_of symmetry n) n s t) tt) tt

  where_spared : (v : Result (Unit {0}) Refusal) (o : Outcome) → Spared v → Spared (answered o) → Spared (answered (where_passed v o))
  where_spared (Ok tt) o l x = x
  where_spared (Err why) o l x = l

  by_symmetry : (k : Sample) (c : Option Symmetry) (len : ℕ) → Spared (answered (window_bytes k (Shape.Kaiser beta) c len))
  unfolding report_of
  by_symmetry k (Some symmetry) len = spared_whole (width_of k) len _ (where_spared (judgement_of (Shape.Kaiser beta) symmetry (len / width_of k)) _ (window_spared symmetry (len / width_of k)) tt)
  by_symmetry k None len = tt

-- ---- the exports
pub lowpass_taken : (cutoff rate : Float) (window : ℕ) (beta : Float) {before after : List ℕ} {r : Report} → Writes float_bytes (lowpass_bytes cutoff rate (window_of window beta) (length before)) before r after → TakenTo713 beta r
lowpass_taken cutoff rate window beta {before} w s t e = spared_told w (by_code beta s t cutoff rate window (length before)) e

pub halfband_taken : (beta : Float) {before after : List ℕ} {r : Report} → Writes float_bytes (halfband_bytes beta (length before)) before r after → TakenTo713 beta r
halfband_taken beta {before} w s t e = spared_told w (spared_whole 8 (length before) _ (halfband_spared beta s t (length before / 8))) e

pub window_taken : (k : Sample) (beta : Float) (c : Option Symmetry) {before after : List ℕ} {r : Report} → Writes (sample_bytes k) (window_bytes k (Shape.Kaiser beta) c (length before)) before r after → TakenTo713 beta r
window_taken k beta c {before} w s t e = spared_told w (by_symmetry beta s t k c (length before)) e
