-- Each outcome of the judgement of a low-pass, from what the tests said. Assumes nothing.
use Rattle.std.specs.Prelude.{◌≡◌, refl, Bool, true, false, cond, List, ℕ, ◌≤◌, ◌<◌, ltb, leb, Float, Err, Ok, Result}
use Rattle.std.proofs.Common.{sym, ◌∙◌, subst, ltb-true, leb-true}
use Rattle.std.proofs.Math.Path.{ap}
use Rattle.laws.specs.Binary64.{◌⊘◌, whole}
use Rattle.laws.specs.Tests.{both}
use Rattle.math_numbers.specs.Numbers.{positive}
use Rattle.verdict.specs.declared.Refusal.{Refusal}
use Rattle.verdict.specs.declared.Refusal.TheVariants.{Plain, Range}
use Rattle.verdict.specs.Outcome.{Fills}
use Rattle.verdict.specs.OutcomeLaws as Outcome
use Rattle.fir_sinc.specs.Windows.{norm_of}
use Rattle.fir_sinc.specs.Taps.{raw_at}
use Rattle.fir_cache.specs.Cached.{CachesOf}
use Rattle.fir_lowpass.specs.Lowpass.{divisor_of, inside, count_taken, beta_taken, series_settle, usable, judgement_of, design_of, where_passed, lowpass_with, lowpass_of, outcome_of}
use Rattle.fir_lowpass.specs.Cached.{Caches, PreparesLowpass}
use Rattle.fir_sinc.specs.declared.window.Window.{Window}
use Rattle.fir_lowpass.specs.declared.lowpass.Lowpass.{Lowpass}
use Rattle.laws.specs.Cases.{either_way}
use Rattle.laws.specs.Results.{refused_never, same_answer}
use Rattle.verdict.specs.Counted.{Counted}
use Rattle.verdict.specs.declared.Reason.TheVariants as Reason

-- a count that is taken is at most 2^24
pub count_most : (n : ℕ) → count_taken n ≡ true → n ≤ 16777216
unfolding count_taken
count_most n h = leb-true n 16777216 (both (ltb 0 n) (leb n 16777216) h).1

pub count_least : (n : ℕ) → count_taken n ≡ true → 0 < n
unfolding count_taken
count_least n h = ltb-true 0 n (both (ltb 0 n) (leb n 16777216) h).0

-- ---- what the tests of the numbers so far said
module _ (cutoff rate : Float) (w : Window) (n : ℕ) where
  module _ (a : positive rate ≡ true) where
    module _ (b : inside (cutoff ⊘ rate) ≡ true) where
      module _ (c : count_taken n ≡ true) where
        module _ (d : beta_taken w ≡ true) where
          pub passes : series_settle w n ≡ true → judgement_of cutoff rate w n ≡ Ok tt
          unfolding judgement_of
          passes e = rw (a, b, c, d, e)

          pub no_series : series_settle w n ≡ false → judgement_of cutoff rate w n ≡ Err (Plain Reason.Unsettled)
          unfolding judgement_of
          no_series e = rw (a, b, c, d, e)

        pub no_beta : beta_taken w ≡ false → judgement_of cutoff rate w n ≡ Err (Plain Reason.Attenuation)
        unfolding judgement_of
        no_beta d = rw (a, b, c, d)

      pub no_count : count_taken n ≡ false → judgement_of cutoff rate w n ≡ Err (Plain Reason.Count)
      unfolding judgement_of
      no_count c = rw (a, b, c)

    pub no_cutoff : inside (cutoff ⊘ rate) ≡ false → judgement_of cutoff rate w n ≡ Err (Range Reason.Frequency (whole 0) (rate ⊘ whole 2) cutoff)
    unfolding judgement_of
    no_cutoff b = rw (a, b)

  pub no_rate : positive rate ≡ false → judgement_of cutoff rate w n ≡ Err (Plain Reason.Rate)
  unfolding judgement_of
  no_rate a = rw a

-- numbers that pass
pub record Passed (cutoff rate : Float) (w : Window) (n : ℕ) : Type 0 where
  pub rated : positive rate ≡ true
  pub inner : inside (cutoff ⊘ rate) ≡ true
  pub counted : count_taken n ≡ true
  pub shaped : beta_taken w ≡ true
  pub settles : series_settle w n ≡ true

pub passed : (cutoff rate : Float) (w : Window) (n : ℕ) → judgement_of cutoff rate w n ≡ Ok tt → Passed cutoff rate w n
unfolding judgement_of
passed cutoff rate w n g = go (positive rate) (inside (cutoff ⊘ rate)) (count_taken n) (beta_taken w) (series_settle w n) refl refl refl refl refl g
  where
    go : (a b c d e : Bool) → positive rate ≡ a → inside (cutoff ⊘ rate) ≡ b → count_taken n ≡ c → beta_taken w ≡ d → series_settle w n ≡ e
        → cond a (cond b (cond c (cond d (cond e (Ok tt) (Err (Plain Reason.Unsettled))) (Err (Plain Reason.Attenuation))) (Err (Plain Reason.Count))) (Err (Range Reason.Frequency (whole 0) (rate ⊘ whole 2) cutoff))) (Err (Plain Reason.Rate)) ≡ Ok (tt {0})
        → Passed cutoff rate w n
    go true true true true true a b c d e g = record { rated = a; inner = b; counted = c; shaped = d; settles = e }
    go true true true true false a b c d e g = absurd (refused_never g)
    go true true true false x a b c d e g = absurd (refused_never g)
    go true true false x y a b c d e g = absurd (refused_never g)
    go true false x y z a b c d e g = absurd (refused_never g)
    go false x y z u a b c d e g = absurd (refused_never g)

-- ---- the design, from what the test of the sum said
abbrev pub designed : Float → Window → Float → ℕ → Lowpass
designed fc w i0 n = record { n = n; fc = fc; window = w; i0 = i0; sum = divisor_of fc w i0 n }

module _ (fc : Float) (w : Window) (i0 : Float) (n : ℕ) where
  pub ready : usable (divisor_of fc w i0 n) ≡ true → design_of fc w i0 n ≡ Ok (designed fc w i0 n)
  unfolding design_of
  ready e = rw e

  pub no_divisor : usable (divisor_of fc w i0 n) ≡ false → design_of fc w i0 n ≡ Err (Plain Reason.Divisor)
  unfolding design_of
  no_divisor e = rw e

  -- as an answer
  pub accepts : (s : Float) (rs : List Float) → s ≡ divisor_of fc w i0 n → CachesOf (raw_at fc w i0 n) n rs → usable (divisor_of fc w i0 n) ≡ true → PreparesLowpass (design_of fc w i0 n) (Ok (record { n = n; fc = fc; window = w; i0 = i0; sum = s })) rs
  accepts s rs e k u =
      let r : Lowpass = record { n = n; fc = fc; window = w; i0 = i0; sum = s } in
      record {
        is = ap (λ (z : Float). Ok (record { n = n; fc = fc; window = w; i0 = i0; sum = z })) e ∙ sym (ready u);
        raws = λ l q. subst (λ (z : Lowpass). Caches z rs) (same_answer q) k;
      }

-- ---- the low-pass, from what came of its numbers
module _ (cutoff rate : Float) (w : Window) (i0 : Float) (n : ℕ) where
  judged : (v : Result (Unit {0}) Refusal) → judgement_of cutoff rate w n ≡ v → lowpass_with cutoff rate w i0 n ≡ where_passed v (design_of (cutoff ⊘ rate) w i0 n)
  unfolding lowpass_with
  judged v e = ap (λ (z : Result (Unit {0}) Refusal). where_passed z (design_of (cutoff ⊘ rate) w i0 n)) e

  pub builds : judgement_of cutoff rate w n ≡ Ok tt → lowpass_with cutoff rate w i0 n ≡ design_of (cutoff ⊘ rate) w i0 n
  builds e = judged (Ok tt) e

  pub refuses : (why : Refusal) → judgement_of cutoff rate w n ≡ Err why → lowpass_with cutoff rate w i0 n ≡ Err why
  refuses why e = judged (Err why) e

-- ---- what an accepted ticket tells
-- numbers that pass, and the design by them
pub record AcceptedWith (cutoff rate : Float) (w : Window) (i0 : Float) (n : ℕ) (l : Lowpass) : Type 0 where
  pub passes : Passed cutoff rate w n
  pub is : l ≡ designed (cutoff ⊘ rate) w i0 n

pub ready_with : (cutoff rate : Float) (w : Window) (i0 : Float) (n : ℕ) (l : Lowpass) → lowpass_with cutoff rate w i0 n ≡ Ok l → AcceptedWith cutoff rate w i0 n l
unfolding lowpass_with design_of
ready_with cutoff rate w i0 n l e = go (judgement_of cutoff rate w n) (usable (divisor_of (cutoff ⊘ rate) w i0 n)) refl e
  where
    go : (v : Result (Unit {0}) Refusal) (u : Bool) → judgement_of cutoff rate w n ≡ v → where_passed v (cond u (Ok (designed (cutoff ⊘ rate) w i0 n)) (Err (Plain Reason.Divisor))) ≡ Ok l → AcceptedWith cutoff rate w i0 n l
    go (Ok tt) true v e = record { passes = passed cutoff rate w n v; is = sym (same_answer e) }
    go (Ok tt) false v e = absurd (refused_never e)
    go (Err why) u v e = absurd (refused_never e)

pub record AcceptedLowpass (cutoff rate : Float) (w : Window) (n : ℕ) (l : Lowpass) : Type 0 where
  pub counted : count_taken n ≡ true
  pub is : l ≡ designed (cutoff ⊘ rate) w (norm_of w) n

pub ready_is : (cutoff rate : Float) (w : Window) (n : ℕ) (l : Lowpass) → lowpass_of cutoff rate w n ≡ Ok l → AcceptedLowpass cutoff rate w n l
unfolding lowpass_of
ready_is cutoff rate w n l e =
    let a = ready_with cutoff rate w (norm_of w) n l e in
    record { counted = a.passes.counted; is = a.is }

-- ---- for an equal design
pub fills_as : {d e : Result Lowpass Refusal} {b a : List Float} {r : Result (Unit {0}) Refusal} → d ≡ e → Fills (outcome_of d) b r a → Fills (outcome_of e) b r a
fills_as p f = Outcome.fills_as (ap outcome_of p) f

-- ---- an accepted design has as many taps as it was asked for
passed_count : (n : ℕ) (v : Result (Unit {0}) Refusal) (d : Result Lowpass Refusal) → Counted n (outcome_of d) → Counted n (outcome_of (where_passed v d))
passed_count n (Ok tt) d c = c
passed_count n (Err why) d c = tt

pub with_count : (cutoff rate : Float) (w : Window) (i0 : Float) (n : ℕ) → Counted n (outcome_of (lowpass_with cutoff rate w i0 n))
unfolding lowpass_with design_of
with_count cutoff rate w i0 n = passed_count n (judgement_of cutoff rate w n) (design_of (cutoff ⊘ rate) w i0 n) (either_way (λ (d : Result Lowpass Refusal). Counted n (outcome_of d)) (usable (divisor_of (cutoff ⊘ rate) w i0 n)) _ _ refl tt)

pub lowpass_count : (cutoff rate : Float) (w : Window) (n : ℕ) → Counted n (outcome_of (lowpass_of cutoff rate w n))
unfolding lowpass_of
lowpass_count cutoff rate w n = with_count cutoff rate w (norm_of w) n
