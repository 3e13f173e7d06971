-- The two ways to a half-band agree on every bit and every refusal: a tap at a time, and a buffer at once. Assumes
-- nothing.
use Rattle.std.specs.Prelude.{◌≡◌, refl, Bool, true, false, List, length, Float, Err, Ok, Result}
use Rattle.std.proofs.Common.{sym, ◌∙◌, subst, arith}
use Rattle.std.proofs.Math.Path.{ap}
use Rattle.std.proofs.Math.Bool.{cond}
use Prim.Native.Nat.{ℕ, ◌-◌, ◌%◌, ◌<◌, min}
use Rattle.std.specs.Float.Ieee.{binary64}
use Rattle.laws.specs.Binary64.{◌⊘◌, whole}
use Rattle.laws.specs.Filled.{tabulate, tabulate_below}
use Rattle.laws.proofs.SumsLaws.{sum_below}
use Rattle.verdict.specs.declared.Refusal.{Refusal}
use Rattle.verdict.specs.declared.Refusal.TheVariants.{Plain}
use Rattle.verdict.specs.Outcome.{Outcome, Fills, Agrees}
use Rattle.fir_lowpass.specs.Lowpass as Lowpass
use Rattle.fir_lowpass.proofs.LowpassLaws.{ready_is}
use Rattle.fir_sinc.specs.declared.window.Window.TheVariants.{Kaiser}
use Rattle.fir_lowpass.specs.declared.lowpass.Lowpass.{Lowpass}
use Rattle.fir_halfband.specs.Halfband.{length_taken, quarter_of, unscaled, divisor_of, halfband_in, halfband_of, tap_of, outcome_of, cleared, mirrored, mirrored_sum, taps_in, halfband_taps_of}
use Rattle.fir_halfband.specs.HalfbandLaws.{tap_is, halved, accepted}
use Rattle.fir_halfband.specs.Distance.{taken_odd, left_is_lesser, lesser_distance, vanishes_alike}
use Rattle.fir_halfband.specs.declared.HalfbandDesign.{HalfbandDesign}
use Rattle.verdict.specs.declared.Reason.TheVariants as Reason

-- ---- a low-pass of n taps, n being odd
module _ (l : Lowpass) (o : l.n % 2 ≡ 1) where
  unscaled_mirrored : (k : ℕ) → k < l.n → unscaled l l.n k ≡ mirrored l k
  unfolding unscaled
  unscaled_mirrored k h =
      let j = min k (l.n - 1 - k) in
      ap (λ (v : Bool). cond v (whole 0) (Lowpass.tap_of l j)) (sym (vanishes_alike l.n j k (lesser_distance l.n k o h)))
      ∙ ap (cleared l) (sym (left_is_lesser l.n k o h))

  divisor_mirrored : divisor_of l l.n ≡ mirrored_sum l
  unfolding divisor_of
  divisor_mirrored = sum_below binary64 (unscaled l l.n) (mirrored l) l.n unscaled_mirrored

  agree_in : Agrees (taps_in (Ok l)) (outcome_of (halfband_in l.n (Ok l)))
  agree_in =
      subst (λ (z : Float). Agrees (cond (Lowpass.usable z) (Outcome.Designed l.n z (λ k. mirrored l k ⊘ z)) (Outcome.Refused (Plain Reason.Divisor))) (outcome_of (halfband_in l.n (Ok l)))) divisor_mirrored
      (tested (Lowpass.usable (divisor_of l l.n)))
    where
      tested : (b : Bool) → Agrees (cond b (Outcome.Designed l.n (divisor_of l l.n) (λ k. mirrored l k ⊘ divisor_of l l.n)) (Outcome.Refused (Plain Reason.Divisor))) (outcome_of (cond b (Ok (halved l l.n)) (Err (Plain Reason.Divisor))))
      tested true = (refl, refl, λ k h. ap (λ (z : Float). z ⊘ divisor_of l l.n) (sym (unscaled_mirrored k h)) ∙ sym (tap_is (halved l l.n) k h))
      tested false = refl

-- ---- every ticket
pub agree : (beta : Float) (n : ℕ) → Agrees (halfband_taps_of beta n) (outcome_of (halfband_of beta n))
unfolding halfband_taps_of halfband_of
agree beta n = go (length_taken n) (quarter_of beta n) refl refl
  where
    go : (a : Bool) (q : Result Lowpass Refusal) → length_taken n ≡ a → quarter_of beta n ≡ q
        → Agrees (cond a (taps_in q) (Outcome.Refused (Plain Reason.Count))) (outcome_of (cond a (halfband_in n q) (Err (Plain Reason.Count))))
    go true (Ok l) a b =
        let e : l.n ≡ n = ap (λ (z : Lowpass). z.n) (ready_is _ _ (Kaiser beta) n l b).is in
        subst (λ (m : ℕ). Agrees (taps_in (Ok l)) (outcome_of (halfband_in m (Ok l)))) e
        (agree_in l (ap (λ (m : ℕ). m % 2) e ∙ taken_odd n a))
    go true (Err why) a b = refl
    go false q a b = refl

-- ---- so a buffer that is filled a tap at a time is filled as at once
module _ (beta : Float) (before : List Float) where
  agree_on : (g : Result HalfbandDesign Refusal) → halfband_of beta (length before) ≡ g → Agrees (halfband_taps_of beta (length before)) (outcome_of g)
  agree_on g h = subst (λ (z : Result HalfbandDesign Refusal). Agrees (halfband_taps_of beta (length before)) (outcome_of z)) h (agree beta (length before))

  pub fills : (d : HalfbandDesign) (after : List Float) → halfband_of beta (length before) ≡ Ok d → after ≡ tabulate (length before) (tap_of d)
      → Fills (halfband_taps_of beta (length before)) before (Ok tt) after
  fills d after h e = go (halfband_taps_of beta (length before)) (agree_on (Ok d) h)
    where
      long : d.n ≡ length before
      long = ap (λ (z : HalfbandDesign). z.n) (accepted beta (length before) d h).is

      go : (p : Outcome) → Agrees p (outcome_of (Ok d)) → Fills p before (Ok tt) after
      go (Outcome.Designed n s t) a = record { answer = refl; buffer = e ∙ tabulate_below (length before) (tap_of d) t (λ k b. sym (a.2 k (omega (arith, long, a.0)))) }
      go (Outcome.Refused why) a = absurd a

  pub leaves : (why : Refusal) → halfband_of beta (length before) ≡ Err why → Fills (halfband_taps_of beta (length before)) before (Err why) before
  leaves why h = go (halfband_taps_of beta (length before)) (agree_on (Err why) h)
    where
      go : (p : Outcome) → Agrees p (Outcome.Refused why) → Fills p before (Err why) before
      go (Outcome.Designed n s t) a = absurd a
      go (Outcome.Refused other) a = record { answer = ap Err (sym a); buffer = refl }

  -- the same of what comes of the design of a ticket
  pub as_at_once : {r : Result (Unit {0}) Refusal} {after : List Float} (g : Result HalfbandDesign Refusal) → g ≡ halfband_of beta (length before)
      → Fills (outcome_of g) before r after → Fills (halfband_taps_of beta (length before)) before r after
  as_at_once {r} {after} (Ok d) e f = subst (λ (z : Result (Unit {0}) Refusal). Fills (halfband_taps_of beta (length before)) before z after) (sym f.answer) (fills d after (sym e) f.buffer)
  as_at_once {r} {after} (Err why) e f =
      subst (λ (z : Result (Unit {0}) Refusal). Fills (halfband_taps_of beta (length before)) before z after) (sym f.answer)
      (subst (λ (z : List Float). Fills (halfband_taps_of beta (length before)) before (Err why) z) (sym f.buffer) (leaves why (sym e)))
