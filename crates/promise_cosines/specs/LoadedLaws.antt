-- A loaded Hann, Hamming or Blackman window has the built-in's value at every tap, so that the designs agree. Assumes
-- nothing.
use Rattle.std.specs.Prelude.{◌≡◌, Bool, List, ℕ, ◌-◌, ◌/◌, ◌%◌, ◌≤◌, ◌<◌, T, eqb, length, Err, Ok, Result, Some}
use Rattle.std.proofs.Math.Path.{refl, ap, subst}
use Rattle.std.proofs.Common.{sym, ◌∙◌, eq-eqb, lit≤}
use Rattle.std.proofs.Math.Bool.{true, false, cond}
use native.Mathlib.Omega.{arith}
use Rattle.std.proofs.lemmas.Bool.{eqb-false}
use Rattle.std.specs.Float.Ieee.{Float, binary64, round, fits}
use Rattle.std.specs.Float.Ieee.Scale.{finite}
use Rattle.laws.specs.Binary64.{◌⊗◌, ◌⊘◌, whole, fraction}
use Rattle.laws.proofs.SumsLaws.{sum_below}
use Rattle.verdict.specs.Outcome.{Outcome, Agrees}
use Rattle.verdict.specs.Report.{accepted_of}
use Rattle.verdict.specs.declared.Refusal.TheVariants.{Plain, Length}
use Rattle.verdict.specs.declared.Report.{Report}
use Rattle.wire.specs.Bytes.{float_bytes}
use Rattle.wire.specs.Writes.{Writes}
use Rattle.wire.proofs.WritesLaws.{writes_agreed}
use Rattle.math_trig.specs.Trig.{cos_of}
use Rattle.win_shapes.specs.Windows.{angle, hann_at, hamming_at, blackman_at, cosines_at}
use Rattle.win_shapes.specs.declared.cosines.Cosines.{Cosines}
use Rattle.win_cosines.specs.Load.{cosines_of, load_of, hann_numbers, hamming_numbers, blackman_numbers}
use Rattle.win_cosines.specs.Worked as Worked
use Rattle.fir_sinc.specs.Windows.{norm_of, shape_at, window_at}
use Rattle.fir_sinc.specs.Taps.{raw_at}
use Rattle.fir_sinc.specs.declared.window.Window.{Window}
use Rattle.fir_lowpass.specs.Lowpass.{divisor_of, beta_taken, series_settle, usable, judgement_of, design_of, where_passed, lowpass_with, lowpass_of, tap_of, outcome_of}
use Rattle.fir_lowpass.proofs.LowpassLaws.{passed, count_most}
use Rattle.ticket_codes.specs.Codes.{window_of}
use Rattle.c_lowpass.specs.Lowpass.{lowpass_bytes}
use Rattle.c_cosines.specs.Loads.{load_bytes, answer_of}
use Rattle.c_cosines.specs.declared.load.Loaded.{Loaded}
use Rattle.promise_cosines.specs.Finite.{cos_finite}
use Rattle.promise_cosines.specs.Angle.{angle_inside}
use Rattle.promise_cosines.specs.Builtins.{two_terms, three_terms}
use Rattle.promise_cosines.specs.Loaded.{Takes, TakesBuiltIns, WritesBuiltIns}
use Rattle.verdict.specs.declared.Refusal.{Refusal}
use Rattle.verdict.specs.declared.Reason.TheVariants as Reason

-- ---- the three formulas, at the angle of tap i where the last tap is d
module _ (i d : ℕ) (h : i ≤ d) (D : 0 < d) (l : d ≤ 16777216) where
  abbrev x : Float
  x = angle (whole i) (whole d)

  still : (k : ℕ) → k ≤ 4 → T (finite (cos_of (whole k ⊗ x)))
  still k u = cos_finite (whole k ⊗ x) (angle_inside i d h D l k u)

  hann_at_lem : cosines_at (cosines_of hann_numbers) x ≡ hann_at x
  unfolding cosines_at hann_at round fits
  hann_at_lem = two_terms x (fraction 1 2) (fraction 1 2) tt tt (still 2 (lit≤ tt)) (still 3 (lit≤ tt)) (still 4 (lit≤ tt))

  hamming_at_lem : cosines_at (cosines_of hamming_numbers) x ≡ hamming_at x
  unfolding cosines_at hamming_at round fits
  hamming_at_lem = two_terms x (fraction 54 100) (fraction 46 100) tt tt (still 2 (lit≤ tt)) (still 3 (lit≤ tt)) (still 4 (lit≤ tt))

  blackman_at_lem : cosines_at (cosines_of blackman_numbers) x ≡ blackman_at x
  unfolding cosines_at blackman_at round fits
  blackman_at_lem = three_terms x (fraction 42 100) (fraction 1 2) tt tt (fraction 8 100) (still 3 (lit≤ tt)) (still 4 (lit≤ tt))

-- ---- two windows that have the same value at every tap
pub record Same (v w : Window) : Type 0 where
  pub taken : (beta_taken v ≡ true) × (beta_taken w ≡ true)
  pub settle : (n : ℕ) → (series_settle v n ≡ true) × (series_settle w n ≡ true)
  pub norm : norm_of v ≡ norm_of w
  pub shape : (i0 : Float) (i d : ℕ) → i ≤ d → 0 < d → d ≤ 16777216 → shape_at v i0 (whole i) (whole d) ≡ shape_at w i0 (whole i) (whole d)

pub same_hann : Same (Window.Cosines (cosines_of hann_numbers)) Window.Hann
unfolding beta_taken series_settle norm_of shape_at
same_hann = record { taken = (refl, refl); settle = λ n. (refl, refl); norm = refl; shape = λ i0 i d. hann_at_lem i d }

pub same_hamming : Same (Window.Cosines (cosines_of hamming_numbers)) Window.Hamming
unfolding beta_taken series_settle norm_of shape_at
same_hamming = record { taken = (refl, refl); settle = λ n. (refl, refl); norm = refl; shape = λ i0 i d. hamming_at_lem i d }

pub same_blackman : Same (Window.Cosines (cosines_of blackman_numbers)) Window.Blackman
unfolding beta_taken series_settle norm_of shape_at
same_blackman = record { taken = (refl, refl); settle = λ n. (refl, refl); norm = refl; shape = λ i0 i d. blackman_at_lem i d }

-- ---- their designs agree
module _ (v w : Window) (S : Same v w) where
  same_window : (i0 : Float) (n i : ℕ) → n ≤ 16777216 → i < n → window_at v i0 n i ≡ window_at w i0 n i
  unfolding window_at
  same_window i0 n i l h = go (eqb n 1) (eqb-false n 1)
    where
      go : (b : Bool) → (b ≡ false → n ≡ 1 → ⊥) → cond b (whole 1) (shape_at v i0 (whole i) (whole (n - 1))) ≡ cond b (whole 1) (shape_at w i0 (whole i) (whole (n - 1)))
      go true f = refl
      go false f = S.shape i0 i (n - 1) (omega arith) (several n i h (f refl)) (omega arith)
        where
          several : (n i : ℕ) → i < n → (n ≡ 1 → ⊥) → 0 < n - 1
          several n i h f = omega arith

  same_raw : (fc i0 : Float) (n i : ℕ) → n ≤ 16777216 → i < n → raw_at fc v i0 n i ≡ raw_at fc w i0 n i
  unfolding raw_at
  same_raw fc i0 n i l h = rw (same_window i0 n i l h) refl

  same_divisor : (fc i0 : Float) (n : ℕ) → n ≤ 16777216 → divisor_of fc v i0 n ≡ divisor_of fc w i0 n
  unfolding divisor_of
  same_divisor fc i0 n l = sum_below binary64 (raw_at fc v i0 n) (raw_at fc w i0 n) n (λ i h. same_raw fc i0 n i l h)

  same_judgement : (cutoff rate : Float) (n : ℕ) → judgement_of cutoff rate v n ≡ judgement_of cutoff rate w n
  unfolding judgement_of
  same_judgement cutoff rate n = rw (S.taken.0, S.taken.1, (S.settle n).0, (S.settle n).1) refl

  agree_designed : (fc i0 : Float) (n : ℕ) → n ≤ 16777216 → Agrees (outcome_of (design_of fc v i0 n)) (outcome_of (design_of fc w i0 n))
  unfolding design_of tap_of
  agree_designed fc i0 n l =
      subst (λ (z : Float). Agrees (outcome_of (cond (usable z) (Ok (record { n = n; fc = fc; window = v; i0 = i0; sum = z })) (Err (Plain Reason.Divisor)))) (outcome_of (design_of fc w i0 n))) (sym (same_divisor fc i0 n l))
      (tested (divisor_of fc w i0 n) (usable (divisor_of fc w i0 n)))
    where
      tested : (s : Float) (b : Bool) → Agrees (outcome_of (cond b (Ok (record { n = n; fc = fc; window = v; i0 = i0; sum = s })) (Err (Plain Reason.Divisor)))) (outcome_of (cond b (Ok (record { n = n; fc = fc; window = w; i0 = i0; sum = s })) (Err (Plain Reason.Divisor))))
      tested s true = (refl, refl, λ k h. rw (same_raw fc i0 n k l h) refl)
      tested s false = refl

  pub agree : (cutoff rate : Float) (n : ℕ) → Agrees (outcome_of (lowpass_of cutoff rate v n)) (outcome_of (lowpass_of cutoff rate w n))
  unfolding lowpass_of lowpass_with
  agree cutoff rate n =
      subst (λ (z : Float). Agrees (outcome_of (where_passed (judgement_of cutoff rate v n) (design_of fc v z n))) (outcome_of (where_passed (judgement_of cutoff rate w n) (design_of fc w (norm_of w) n)))) (sym S.norm)
      (subst (λ (j : Result (Unit {0}) Refusal). Agrees (outcome_of (where_passed j (design_of fc v (norm_of w) n))) (outcome_of (where_passed (judgement_of cutoff rate w n) (design_of fc w (norm_of w) n)))) (sym (same_judgement cutoff rate n))
      (judged (judgement_of cutoff rate w n) refl))
    where
      fc : Float
      fc = cutoff ⊘ rate

      judged : (j : Result (Unit {0}) Refusal) → judgement_of cutoff rate w n ≡ j → Agrees (outcome_of (where_passed j (design_of fc v (norm_of w) n))) (outcome_of (where_passed j (design_of fc w (norm_of w) n)))
      judged (Ok tt) e = agree_designed fc (norm_of w) n (count_most n (passed cutoff rate w n e).counted)
      judged (Err why) e = refl

  pub agree_bytes : (cutoff rate : Float) (len : ℕ) → Agrees (lowpass_bytes cutoff rate (Some v) len) (lowpass_bytes cutoff rate (Some w) len)
  agree_bytes cutoff rate len = go (eqb (len % 8) 0)
    where
      go : (b : Bool) → Agrees (cond b (outcome_of (lowpass_of cutoff rate v (len / 8))) (Outcome.Refused (Length (len - len % 8) len))) (cond b (outcome_of (lowpass_of cutoff rate w (len / 8))) (Outcome.Refused (Length (len - len % 8) len)))
      go true = agree cutoff rate (len / 8)
      go false = refl

-- ---- of the exports
module _ (cutoff rate : Float) (c : Cosines) {before after : List ℕ} {r : Report} (W : Writes float_bytes (lowpass_bytes cutoff rate (Some (Window.Cosines c)) (length before)) before r after) where
  as_built_in : (cs : List Float) (w : Window) → Same (Window.Cosines (cosines_of cs)) w → c ≡ cosines_of cs → Writes float_bytes (lowpass_bytes cutoff rate (Some w) (length before)) before r after
  as_built_in cs w S e =
      writes_agreed _ _ (agree_bytes (Window.Cosines (cosines_of cs)) w S cutoff rate (length before))
      (subst (λ (z : Cosines). Writes float_bytes (lowpass_bytes cutoff rate (Some (Window.Cosines z)) (length before)) before r after) e W)

  pub writes_built_ins : WritesBuiltIns cutoff rate c before r after
  unfolding window_of
  writes_built_ins = record {
    hann = as_built_in hann_numbers Window.Hann same_hann;
    hamming = as_built_in hamming_numbers Window.Hamming same_hamming;
    blackman = as_built_in blackman_numbers Window.Blackman same_blackman;
  }

module _ (s : List ℕ) {r : Loaded} (e : r ≡ answer_of (length s / 8) (load_bytes s)) where
  accepted : (cs : List Float) → Worked.Taken cs → Takes cs s r
  unfolding load_bytes accepted_of
  accepted cs t whole is =
      let l : load_bytes s ≡ load_of cs = rw (eq-eqb (length s % 8) 0 whole) (ap load_of is) in
      let g = e ∙ ap (answer_of (length s / 8)) (l ∙ t) in
      (ap (λ (z : Loaded). z.report.number) g, ap (λ (z : Loaded). z.window) g)

  pub takes_built_ins : TakesBuiltIns s r
  takes_built_ins = record {
    hann = accepted hann_numbers Worked.hann;
    hamming = accepted hamming_numbers Worked.hamming;
    blackman = accepted blackman_numbers Worked.blackman;
  }
