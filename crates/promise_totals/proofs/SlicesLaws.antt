-- The totals of what fills a slice, a kind at a time.
use Rattle.std.specs.Prelude.{◌≡◌, List, ℕ, ◌-◌, ◌%◌, ◌<◌, length, get_or, Float, Err, Ok, Result}
use Rattle.std.proofs.Common.{sym, ap, ◌∙◌, subst, arith}
use Rattle.std.specs.Float.{nan}
use Rattle.laws.specs.Results.{refused_never}
use Rattle.laws.specs.Filled.{tabulate, tabulate_below, length_tabulate, get_d_tabulate}
use Rattle.verdict.specs.Counted.{Counted}
use Rattle.verdict.specs.Outcome.{Outcome, Fills, Agrees}
use Rattle.verdict.specs.declared.Refusal.{Refusal}
use Rattle.fir_sinc.specs.declared.window.Window.{Window}
use Rattle.fir_lowpass.specs.Lowpass as Lowpass
use Rattle.fir_lowpass.proofs.LowpassLaws.{lowpass_count}
use Rattle.fir_spec.specs.Spec.{spec_design_of}
use Rattle.fir_spec.specs.SpecLaws.{spec_count}
use Rattle.fir_spec.specs.declared.DesignSpec.{DesignSpec}
use Rattle.fir_halfband.specs.Halfband as Halfband
use Rattle.fir_halfband.specs.Halfband.{distance, halfband_taps_of}
use Rattle.fir_halfband.specs.HalfbandLaws.{halfband_count}
use Rattle.fir_halfband.specs.Mirror.{IsZero}
use Rattle.fir_gaussian.specs.Gaussian as Gaussian
use Rattle.fir_gaussian.specs.GaussianLaws.{gaussian_count}
use Rattle.fir_channelizer.specs.Channelizer as Channelizer
use Rattle.fir_channelizer.specs.ChannelizerLaws.{channelizer_count}
use Rattle.ticket_slices.specs.Agree.{agree}
use Rattle.promise_totals.proofs.Normalised.{Promised, normalised_promised}
use Rattle.promise_totals.proofs.Sound.{Made, lowpass_made, spec_made, halfband_made, gaussian_made, channelizer_made}
use Rattle.promise_totals.specs.Mirror.{WhereMade}
use Rattle.promise_totals.proofs.MirrorLaws.{halfband_symmetric}
use Rattle.promise_totals.specs.Slices.{SliceMirrors, SliceTotals}

-- ---- of any outcome
module _ {before after : List Float} {r : Result (Unit {0}) Refusal} where
  -- a slice that is filled by a design of as many taps as it has elements
  taps_are : (n : ℕ) (divisor : Float) (tap : ℕ → Float) → n ≡ length before → Fills (Outcome.Designed n divisor tap) before r after → after ≡ tabulate n tap
  taps_are n divisor tap e f = f.buffer ∙ ap (λ (m : ℕ). tabulate m tap) (sym e)

  pub of_fills : (o : Outcome) → Made o → Counted (length before) o → Fills o before r after → SliceTotals o r after
  of_fills (Outcome.Designed n divisor tap) (taps, fit) e f =
      let p = subst (Promised divisor) (sym (taps_are n divisor tap e f)) (normalised_promised taps) in
      record { taps = λ a. p.taps; codes = λ a. p.codes }
  of_fills (Outcome.Refused why) made e f = record { taps = λ a. absurd (refused_never (sym f.answer ∙ a)); codes = λ a. absurd (refused_never (sym f.answer ∙ a)) }

  pub of_symmetric : (o : Outcome) → WhereMade o → Counted (length before) o → Fills o before r after → SliceMirrors r after
  of_symmetric (Outcome.Designed n divisor tap) s e f = subst (SliceMirrors r) (sym (taps_are n divisor tap e f)) (record { mirrored = λ a. mirrored; zeros = λ a. zeros })
    where
      at : (i : ℕ) → i < n → get_or (tabulate n tap) i nan ≡ tap i
      at i h = get_d_tabulate n tap i nan h

      size : length (tabulate n tap) ≡ n
      size = length_tabulate n tap

      mirrored : (i : ℕ) → i < length (tabulate n tap) → get_or (tabulate n tap) i nan ≡ get_or (tabulate n tap) (length (tabulate n tap) - 1 - i) nan
      mirrored i h =
          let b : i < n = omega (arith, h, size) in
          at i b ∙ s.mirrored i b ∙ sym (at (n - 1 - i) (omega arith)) ∙ ap (λ (m : ℕ). get_or (tabulate n tap) (m - 1 - i) nan) (sym size)

      zeros : (i : ℕ) → i < length (tabulate n tap) → distance (length (tabulate n tap)) i % 2 ≡ 0 → (distance (length (tabulate n tap)) i ≡ 0 → ⊥) → IsZero (get_or (tabulate n tap) i nan)
      zeros i h p q =
          let b : i < n = omega (arith, h, size) in
          subst IsZero (sym (at i b)) (s.zeros i b (subst (λ (m : ℕ). distance m i % 2 ≡ 0) size p) (λ z. q (subst (λ (m : ℕ). distance m i ≡ 0) (sym size) z)))
  of_symmetric (Outcome.Refused why) s e f = record { mirrored = λ a. absurd (refused_never (sym f.answer ∙ a)); zeros = λ a. absurd (refused_never (sym f.answer ∙ a)) }

  -- two outcomes that agree fill alike
  fills_agreed : (o p : Outcome) → Agrees o p → Counted (length before) p → Fills o before r after → Fills p before r after
  fills_agreed (Outcome.Designed n s t) (Outcome.Designed m u v) (counts, divisors, taps) e f = record {
    answer = f.answer;
    buffer = f.buffer ∙ tabulate_below (length before) t v (λ k h. taps k (omega (arith, counts, e)));
  }
  fills_agreed (Outcome.Designed n s t) (Outcome.Refused why) a e f = absurd a
  fills_agreed (Outcome.Refused why) (Outcome.Designed m u v) a e f = absurd a
  fills_agreed (Outcome.Refused why) (Outcome.Refused other) a e f = record { answer = f.answer ∙ ap Err a; buffer = f.buffer }

-- ---- of each function; `Fills` is what it ensures
module _ {before after : List Float} {r : Result (Unit {0}) Refusal} where
  -- `firwin_lowpass`
  pub lowpass_filled : (cutoff rate : Float) (w : Window) → Fills (Lowpass.outcome_of (Lowpass.lowpass_of cutoff rate w (length before))) before r after → SliceTotals (Lowpass.outcome_of (Lowpass.lowpass_of cutoff rate w (length before))) r after
  lowpass_filled cutoff rate w = of_fills _ (lowpass_made cutoff rate w (length before)) (lowpass_count cutoff rate w (length before))

  -- `design` of a specification
  pub spec_filled : (spec : DesignSpec) (rate : Float) (m : ℕ) → Fills (Lowpass.outcome_of (spec_design_of spec rate m (length before))) before r after → SliceTotals (Lowpass.outcome_of (spec_design_of spec rate m (length before))) r after
  spec_filled spec rate m = of_fills _ (spec_made spec rate m (length before)) (spec_count spec rate m (length before))

  -- `gaussian`
  pub gaussian_filled : (bt : Float) (sps span : ℕ) → Fills (Gaussian.outcome_of (Gaussian.fitted_of (Gaussian.gaussian_of bt sps span) (length before))) before r after → SliceTotals (Gaussian.outcome_of (Gaussian.fitted_of (Gaussian.gaussian_of bt sps span) (length before))) r after
  gaussian_filled bt sps span = of_fills _ (gaussian_made bt sps span (length before)) (gaussian_count (Gaussian.gaussian_of bt sps span) (length before))

  -- `channelizer_prototype`
  pub channelizer_filled : (channels branch : ℕ) (passband stopband attenuation : Float) → Fills (Lowpass.outcome_of (Channelizer.fitted_of (Channelizer.channelizer_lowpass_of channels branch passband stopband attenuation) (length before))) before r after → SliceTotals (Lowpass.outcome_of (Channelizer.fitted_of (Channelizer.channelizer_lowpass_of channels branch passband stopband attenuation) (length before))) r after
  channelizer_filled channels branch passband stopband attenuation = of_fills _ (channelizer_made channels branch passband stopband attenuation (length before)) (channelizer_count (Channelizer.channelizer_lowpass_of channels branch passband stopband attenuation) (length before))

  -- `halfband_taps`, whose last divisor is that of `HalfbandDesign::new`: both ways to a half-band agree
  module _ (beta : Float) (f : Fills (halfband_taps_of beta (length before)) before r after) where
    pub by_taps : Fills (Halfband.outcome_of (Halfband.halfband_of beta (length before))) before r after
    by_taps = fills_agreed _ _ (agree beta (length before)) (halfband_count beta (length before)) f

    pub halfband_filled : SliceTotals (Halfband.outcome_of (Halfband.halfband_of beta (length before))) r after
    halfband_filled = of_fills _ (halfband_made beta (length before)) (halfband_count beta (length before)) by_taps

    pub halfband_mirrors : SliceMirrors r after
    halfband_mirrors = of_symmetric _ (halfband_symmetric beta (length before)) (halfband_count beta (length before)) by_taps
