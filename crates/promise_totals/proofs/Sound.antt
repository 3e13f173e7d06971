-- What comes of an export's numbers, whatever they are: taps that are raw values divided by their sum, or a refusal
-- whose number is not 0. Assumes nothing.
use Rattle.std.specs.Prelude.{◌≡◌, refl, ℕ, ◌-◌, ◌*◌, ◌/◌, ◌%◌, T, eqb, Float, Err, None, Ok, Option, Result, Some}
use Rattle.std.specs.Float.{binary64}
use Rattle.std.specs.Float.Ieee.{fits}
use Rattle.laws.specs.Binary64.{◌⊕◌, ◌⊗◌, ◌⊘◌, whole}
use Rattle.laws.specs.Cases.{either_way}
use Rattle.verdict.specs.Report.{report_of}
use Rattle.verdict.specs.Outcome.{Outcome, answered}
use Rattle.verdict.specs.declared.Refusal.{Refusal}
use Rattle.wire.specs.Writes.{whole_taps}
use Rattle.fir_length.specs.Kaiser.{beta_of}
use Rattle.fir_length.specs.declared.order.Order.{Order}
use Rattle.fir_sinc.specs.Windows.{norm_of}
use Rattle.fir_sinc.specs.declared.window.Window.{Window}
use Rattle.fir_sinc.specs.declared.window.Window.TheVariants.{Kaiser}
use Rattle.fir_lowpass.specs.Lowpass as Lowpass
use Rattle.fir_spec.specs.Spec.{spec_order_of, design_in, spec_design_of}
use Rattle.fir_spec.specs.declared.DesignSpec.{DesignSpec}
use Rattle.fir_halfband.specs.Halfband as Halfband
use Rattle.fir_gaussian.specs.Gaussian as Gaussian
use Rattle.fir_channelizer.specs.Channelizer as Channelizer
use Rattle.c_lowpass.specs.Lowpass.{lowpass_bytes}
use Rattle.c_lowpass.specs.Prototype.{channelizer_bytes}
use Rattle.c_lowpass.specs.Spec.{spec_bytes}
use Rattle.c_retune.specs.Designs.{lowpass_for, cutoff_for, beta_for}
use Rattle.c_retune.specs.DesignsLaws.{lowpass_has, cutoff_has, beta_has}
use Rattle.c_retune.specs.declared.record.Design.{Design}
use Rattle.c_pulses.specs.Buffers.{halfband_bytes, gaussian_bytes}
use Rattle.promise_refusals.specs.Listed.{Listed}
use Rattle.promise_refusals.proofs.ListedLaws.{never_zero}
use Rattle.promise_refusals.specs.Exports as Exports
use Rattle.promise_totals.proofs.Normalised.{Normalised}
use Rattle.promise_totals.proofs.KindLaws.{with_normalised, lowpass_tap_fits, halfband_normalised, halfband_tap_fits, gaussian_normalised, gaussian_tap_fits}
use Rattle.fir_gaussian.specs.declared.gaussian_design.Gaussian.{Gaussian}
use Rattle.fir_halfband.specs.declared.HalfbandDesign.{HalfbandDesign}
use Rattle.fir_lowpass.specs.declared.lowpass.Lowpass.{Lowpass}

-- ---- what is shown
-- of an accepted ticket the taps, each an f64
abbrev pub Made : Outcome → Type 0
Made (Outcome.Designed n divisor tap) = Normalised n divisor tap × ((i : ℕ) → T (fits binary64 (tap i)))
Made (Outcome.Refused why) = Unit {0}

-- a refusal's number is not 0
abbrev pub Numbered : Refusal → Type 0
Numbered why = (report_of why).number ≡ 0 → ⊥

abbrev pub Sound : Outcome → Type 0
Sound (Outcome.Designed n divisor tap) = Made (Outcome.Designed n divisor tap)
Sound (Outcome.Refused why) = Numbered why

-- the number is one of the list, which 0 is not
pub sound : (o : Outcome) → Made o → Listed (answered o) → Sound o
sound (Outcome.Designed n divisor tap) made listed = made
sound (Outcome.Refused why) made listed = never_zero (report_of why).number listed

-- a buffer of bytes that isn't whole taps is refused
whole_made : (len : ℕ) (o : Outcome) → Made o → Made (whole_taps len o)
whole_made len o x = either_way Made (eqb (len % 8) 0) o (Outcome.Refused (Refusal.Length (len - len % 8) len)) x tt

-- ---- the low-pass
-- whatever its window is divided by
pub with_made : (cutoff rate : Float) (w : Window) (i0 : Float) (n : ℕ) → Made (Lowpass.outcome_of (Lowpass.lowpass_with cutoff rate w i0 n))
with_made cutoff rate w i0 n = go (Lowpass.lowpass_with cutoff rate w i0 n) refl
  where
    go : (d : Result Lowpass Refusal) → Lowpass.lowpass_with cutoff rate w i0 n ≡ d → Made (Lowpass.outcome_of d)
    go (Ok l) e = (with_normalised cutoff rate w i0 n l e, lowpass_tap_fits l)
    go (Err why) e = tt

pub lowpass_made : (cutoff rate : Float) (w : Window) (n : ℕ) → Made (Lowpass.outcome_of (Lowpass.lowpass_of cutoff rate w n))
unfolding Lowpass.lowpass_of
lowpass_made cutoff rate w n = with_made cutoff rate w (norm_of w) n

pub lowpass_bytes_sound : (cutoff rate : Float) (c : Option Window) (len : ℕ) → Sound (lowpass_bytes cutoff rate c len)
lowpass_bytes_sound cutoff rate c len = sound (lowpass_bytes cutoff rate c len) (go c) (Exports.lowpass_bytes_lem cutoff rate c len)
  where
    go : (c : Option Window) → Made (lowpass_bytes cutoff rate c len)
    go (Some w) = whole_made len _ (lowpass_made cutoff rate w (len / 8))
    go None = tt

-- ---- the low-pass whose record is kept, and the turns of its knob, of any record
abbrev DesignMade : Result Lowpass Refusal → Type 0
DesignMade d = Made (Lowpass.outcome_of d)

pub design_lowpass_sound : (cutoff rate : Float) (window : ℕ) (beta : Float) (len : ℕ) → Sound (Lowpass.outcome_of (lowpass_for cutoff rate window beta len))
design_lowpass_sound cutoff rate window beta len = sound (Lowpass.outcome_of (lowpass_for cutoff rate window beta len)) (lowpass_has DesignMade tt (λ a b. tt) cutoff rate window beta len (λ w n. lowpass_made cutoff rate w n)) (Exports.design_lowpass cutoff rate window beta len)

pub design_cutoff_sound : (d : Design) (cutoff rate : Float) (len : ℕ) → Sound (Lowpass.outcome_of (cutoff_for d cutoff rate len))
design_cutoff_sound d cutoff rate len = sound (Lowpass.outcome_of (cutoff_for d cutoff rate len)) (cutoff_has DesignMade tt (λ a b. tt) d cutoff rate len (λ w i0 n. with_made cutoff rate w i0 n)) (Exports.design_cutoff d cutoff rate len)

pub design_beta_sound : (d : Design) (beta : Float) (len : ℕ) → Sound (Lowpass.outcome_of (beta_for d beta len))
design_beta_sound d beta len = sound (Lowpass.outcome_of (beta_for d beta len)) (beta_has DesignMade tt (λ a b. tt) d beta len (λ fc n. lowpass_made fc (whole 1) (Kaiser beta) n)) (Exports.design_beta d beta len)

-- ---- the specification
pub spec_made : (spec : DesignSpec) (rate : Float) (cap len : ℕ) → Made (Lowpass.outcome_of (spec_design_of spec rate cap len))
unfolding spec_design_of
spec_made spec rate cap len = go (spec_order_of spec rate cap)
  where
    go : (o : Result Order Refusal) → Made (Lowpass.outcome_of (design_in spec rate len o))
    go (Ok o) = either_way (λ (d : Result Lowpass Refusal). Made (Lowpass.outcome_of d)) (eqb o.taps len) (Lowpass.lowpass_of spec.cutoff rate (Kaiser o.beta) o.taps) _ (lowpass_made spec.cutoff rate (Kaiser o.beta) o.taps) tt
    go (Err why) = tt

pub spec_bytes_sound : (spec : DesignSpec) (rate : Float) (m len : ℕ) → Sound (spec_bytes spec rate m len)
spec_bytes_sound spec rate m len = sound (spec_bytes spec rate m len) (whole_made len _ (spec_made spec rate m (len / 8))) (Exports.spec_bytes_lem spec rate m len)

-- ---- the half-band
pub halfband_made : (beta : Float) (n : ℕ) → Made (Halfband.outcome_of (Halfband.halfband_of beta n))
halfband_made beta n = go (Halfband.halfband_of beta n) refl
  where
    go : (d : Result HalfbandDesign Refusal) → Halfband.halfband_of beta n ≡ d → Made (Halfband.outcome_of d)
    go (Ok d) e = (halfband_normalised beta n d e, halfband_tap_fits d)
    go (Err why) e = tt

pub halfband_bytes_sound : (beta : Float) (len : ℕ) → Sound (halfband_bytes beta len)
halfband_bytes_sound beta len = sound (halfband_bytes beta len) (whole_made len _ (halfband_made beta (len / 8))) (Exports.halfband_bytes_lem beta len)

-- ---- the Gaussian
pub gaussian_made : (bt : Float) (sps span len : ℕ) → Made (Gaussian.outcome_of (Gaussian.fitted_of (Gaussian.gaussian_of bt sps span) len))
gaussian_made bt sps span len = go (Gaussian.gaussian_of bt sps span) refl
  where
    go : (d : Result Gaussian Refusal) → Gaussian.gaussian_of bt sps span ≡ d → Made (Gaussian.outcome_of (Gaussian.fitted_of d len))
    go (Ok g) e = either_way (λ (d : Result Gaussian Refusal). Made (Gaussian.outcome_of d)) (eqb g.n len) _ _ (gaussian_normalised bt sps span g e, gaussian_tap_fits g) tt
    go (Err why) e = tt

pub gaussian_bytes_sound : (bt : Float) (sps span len : ℕ) → Sound (gaussian_bytes bt sps span len)
gaussian_bytes_sound bt sps span len = sound (gaussian_bytes bt sps span len) (whole_made len _ (gaussian_made bt sps span (len / 8))) (Exports.gaussian_bytes_lem bt sps span len)

-- ---- the channelizer's prototype
edges_made : (v : Result (Unit {0}) Refusal) (d : Result Lowpass Refusal) → Made (Lowpass.outcome_of d) → Made (Lowpass.outcome_of (Lowpass.where_passed v d))
edges_made (Ok tt) d x = x
edges_made (Err why) d x = tt

fitted_made : (d : Result Lowpass Refusal) (len : ℕ) → Made (Lowpass.outcome_of d) → Made (Lowpass.outcome_of (Channelizer.fitted_of d len))
fitted_made (Ok l) len x = either_way (λ (d : Result Lowpass Refusal). Made (Lowpass.outcome_of d)) (eqb l.n len) _ _ x tt
fitted_made (Err why) len x = tt

pub channelizer_made : (m l : ℕ) (passband stopband a : Float) (len : ℕ) → Made (Lowpass.outcome_of (Channelizer.fitted_of (Channelizer.channelizer_lowpass_of m l passband stopband a) len))
unfolding Channelizer.channelizer_lowpass_of
channelizer_made m l passband stopband a len =
    let way = either_way (λ (d : Result Lowpass Refusal). Made (Lowpass.outcome_of d)) in
    fitted_made (Channelizer.channelizer_lowpass_of m l passband stopband a) len
    (way (Channelizer.channels_taken m) _ _
    (way (Channelizer.branch_taken l) _ _
    (edges_made (Channelizer.edges_of passband stopband a) _ (lowpass_made ((passband ⊕ stopband) ⊘ (whole 2 ⊗ whole m)) (whole 1) (Kaiser (beta_of a)) (m * l)))
    tt)
    tt)

pub channelizer_bytes_sound : (channels branch : ℕ) (passband stopband attenuation : Float) (len : ℕ) → Sound (channelizer_bytes channels branch passband stopband attenuation len)
channelizer_bytes_sound channels branch passband stopband attenuation len =
    sound (channelizer_bytes channels branch passband stopband attenuation len) (whole_made len _ (channelizer_made channels branch passband stopband attenuation (len / 8))) (Exports.channelizer_bytes_lem channels branch passband stopband attenuation len)
