-- What the numbers of refusals are: each one is listed, and what an export tells is one of them.
use Rattle.std.specs.Prelude.{ℕ, ◌-◌, ◌%◌, ◌≤◌, ◌≡◌, refl, Bool, true, false, cond, ◌&&◌, ◌||◌, List, [], ◌∷◌, ◌⊎◌, T, eqb, leb, length, Err, Ok, Result, ℤ}
use Rattle.std.proofs.Common.{sym, ◌∙◌, subst, inl, inr, arith, eqb-true, leb-true}
use Rattle.std.specs.Float.Ieee.Bits.{is_true}
use Rattle.std.specs.Float.Ieee.Fits.{and_l, and_r}
use Rattle.laws.specs.Cases.{either}
use Rattle.laws.specs.Results.{refused_never}
use Rattle.verdict.specs.Numbers.{refusals, bad_length}
use Rattle.verdict.specs.Report.{report_of, accepted_of}
use Rattle.verdict.specs.Reports.{length_report, outcome_report, done_report}
use Rattle.verdict.specs.Outcome.{Outcome, answered}
use Rattle.verdict.specs.declared.Refusal.{Refusal}
use Rattle.fir_length.specs.declared.order.Order.{Order}
use Rattle.fir_delay.specs.declared.HalfSamples.{HalfSamples}
use Rattle.math_bessel.specs.declared.Series.{Series}
use Rattle.c_math.specs.Reports.{order_report, delay_report, coded_report, unsettled_of, series_report}
use Rattle.c_cosines.specs.Loads.{answer_of}
use Rattle.c_gain.specs.Level.{gain_report}
use Rattle.c_gain.specs.declared.level.GainReport.{GainReport}
use Rattle.promise_refusals.specs.Demand.{listed, IsRefusal, Numbered}
use Rattle.promise_refusals.specs.Verdicts.{of_length, of_order, of_delay, of_coded, of_loading, of_series, of_samples}
use Rattle.promise_refusals.specs.Listed.{Listed, every, heard, is_known}
use Rattle.win_shapes.specs.declared.cosines.Cosines.{Cosines}
use Rattle.verdict.specs.declared.Reason.TheVariants as Reason

-- what every number of a list passes, one of them does
one_of : (p : ℕ → Bool) (k : ℕ) (ns : List ℕ) → T (every p ns) → T (listed k ns) → T (p k)
unfolding every listed
one_of p k [] h l = absurd l
one_of p k (n ∷ ns) h l = go (eqb k n) (eqb-true k n) (λ m. one_of p k ns (and_r (p n) (every p ns) h) m) l
  where
    go : (b : Bool) → (b ≡ true → k ≡ n) → (T (listed k ns) → T (p k)) → T (b || listed k ns) → T (p k)
    go true e rest l = subst (λ (m : ℕ). T (p m)) (sym (e refl)) (and_l (p n) (every p ns) h)
    go false e rest l = rest l

all_known : T (every is_known refusals)
unfolding every
all_known = tt

-- a to b
within : (a b k : ℕ) → T (leb a k && leb k b) → (a ≤ k) × (k ≤ b)
within a b k h = (leb-true a k (is_true (leb a k) (and_l (leb a k) (leb k b) h)), leb-true k b (is_true (leb k b) (and_r (leb a k) (leb k b) h)))

-- 1 to 14, and 16 to 19
pub between : (k : ℕ) → IsRefusal k → ((1 ≤ k) × (k ≤ 14)) ⊎ ((16 ≤ k) × (k ≤ 19))
between k l = go (leb 1 k && leb k 14) (within 1 14 k) (one_of is_known k refusals all_known l)
  where
    go : (b : Bool) → (T b → (1 ≤ k) × (k ≤ 14)) → T (b || (leb 16 k && leb k 19)) → ((1 ≤ k) × (k ≤ 14)) ⊎ ((16 ≤ k) × (k ≤ 19))
    go true f h = inl (f tt)
    go false f h = inr (within 16 19 k h)

pub never_zero : (k : ℕ) → IsRefusal k → k ≡ 0 → ⊥
never_zero k l e = either (between k l) (λ r. omega (arith, r.0, e)) (λ r. omega (arith, r.0, e))

pub numbered : (v : Result (Unit {0}) Refusal) {k : ℕ} → k ≡ heard v → Listed v → Numbered v k
numbered (Ok tt) {k} e l = record { number = inl e; accepted = λ d. e; only = λ z. refl }
numbered (Err why) {k} e l = record {
  number = inr (subst IsRefusal (sym e) l);
  accepted = λ d. absurd (refused_never d);
  only = λ z. absurd (never_zero (report_of why).number l (sym e ∙ z));
}

-- "the number is 0 or one of" the refusals': 1 to 14 or 16 to 19
pub zero_or_between : {v : Result (Unit {0}) Refusal} {k : ℕ} → Numbered v k → (k ≡ 0) ⊎ (((1 ≤ k) × (k ≤ 14)) ⊎ ((16 ≤ k) × (k ≤ 19)))
zero_or_between {v} {k} n = either n.number (λ e. inl e) (λ l. inr (between k l))

-- ---- what is told of each kind of answer
pub outcome_heard : (o : Outcome) → (outcome_report o).number ≡ heard (answered o)
unfolding accepted_of
outcome_heard (Outcome.Designed n divisor tap) = refl
outcome_heard (Outcome.Refused why) = refl

pub done_heard : (n : ℕ) (v : Result (Unit {0}) Refusal) → (done_report n v).number ≡ heard v
unfolding accepted_of
done_heard n (Ok tt) = refl
done_heard n (Err why) = refl

pub length_heard : (l : Result ℕ Refusal) → (length_report l).number ≡ heard (of_length l)
unfolding accepted_of
length_heard (Ok n) = refl
length_heard (Err why) = refl

pub order_heard : (o : Result Order Refusal) → (order_report o).number ≡ heard (of_order o)
unfolding accepted_of
order_heard (Ok o) = refl
order_heard (Err why) = refl

pub delay_heard : (d : Result HalfSamples Refusal) → (delay_report d).number ≡ heard (of_delay d)
unfolding accepted_of
delay_heard (Ok h) = refl
delay_heard (Err why) = refl

pub coded_heard : (c : Result ℤ Refusal) → (coded_report c).number ≡ heard (of_coded c)
unfolding accepted_of
coded_heard (Ok q) = refl
coded_heard (Err why) = refl

pub loading_heard : (n : ℕ) (l : Result Cosines Refusal) → (answer_of n l).report.number ≡ heard (of_loading l)
unfolding accepted_of
loading_heard n (Ok c) = refl
loading_heard n (Err why) = refl

pub series_heard : (s : Series) → (series_report s).number ≡ heard (of_series s)
unfolding accepted_of report_of
series_heard s = go s.settled
  where
    go : (b : Bool) → (cond b (accepted_of s.terms s.sum) (unsettled_of s.terms s.sum)).number ≡ heard (cond b (Ok tt) (Err (Refusal.Plain Reason.Unsettled)))
    go true = refl
    go false = refl

pub gain_heard : (s : List ℕ) → (gain_report s).number ≡ heard (of_samples s)
unfolding gain_report report_of
gain_heard s = go (eqb (length s % 4) 0) _ _ refl refl
  where
    go : (b : Bool) (x y : GainReport) → x.number ≡ 0 → y.number ≡ bad_length → (cond b x y).number ≡ heard (cond b (Ok tt) (Err (Refusal.Length (length s - length s % 4) (length s))))
    go true x y e f = e
    go false x y e f = f
