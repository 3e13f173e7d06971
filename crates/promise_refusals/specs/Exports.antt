-- Every refusal of each export has one of the refusals' numbers: the judgements, with codes and byte lengths before
-- them. Assumes nothing.
use Rattle.std.specs.Prelude.{ℕ, ◌/◌, ◌%◌, List, eqb, length, Float, Err, None, Ok, Option, Result, Some}
use Rattle.laws.specs.Binary64.{whole}
use Rattle.laws.specs.Cases.{either_way}
use Rattle.verdict.specs.Report.{report_of}
use Rattle.verdict.specs.Outcome.{Outcome, answered}
use Rattle.fir_sinc.specs.declared.window.Window.{Window}
use Rattle.fir_sinc.specs.declared.window.Window.TheVariants.{Kaiser}
use Rattle.fir_lowpass.specs.Lowpass as Lowpass
use Rattle.fir_spec.specs.Spec.{spec_design_of}
use Rattle.fir_spec.specs.declared.DesignSpec.{DesignSpec}
use Rattle.fir_halfband.specs.Halfband as Halfband
use Rattle.fir_gaussian.specs.Gaussian as Gaussian
use Rattle.fir_rrc.specs.Rrc as Rrc
use Rattle.fir_channelizer.specs.Channelizer as Channelizer
use Rattle.iir_biquad.specs.Biquad.{biquad_of}
use Rattle.iir_biquad.specs.Preemphasis.{preemphasis_of}
use Rattle.iir_biquad.specs.declared.biquad.Response.{Response}
use Rattle.iir_butterworth.specs.Butterworth.{butterworth_of}
use Rattle.win_sampled.specs.Shapes.{judgement_of}
use Rattle.win_sampled.specs.declared.shape.Shape.{Shape}
use Rattle.win_sampled.specs.declared.shape.Symmetry.{Symmetry}
use Rattle.c_lowpass.specs.Lowpass.{lowpass_coded, lowpass_bytes}
use Rattle.c_lowpass.specs.Spec.{spec_bytes}
use Rattle.c_lowpass.specs.Prototype.{channelizer_bytes}
use Rattle.c_retune.specs.Designs.{lowpass_for, cutoff_for, beta_for}
use Rattle.c_retune.specs.DesignsLaws.{lowpass_has, cutoff_has, beta_has}
use Rattle.c_retune.specs.declared.record.Design.{Design}
use Rattle.c_cosines.specs.Loads.{numbers_in, load_bytes}
use Rattle.c_pulses.specs.Buffers.{halfband_bytes, gaussian_bytes, rrc_bytes}
use Rattle.c_sections.specs.Numbers.{numbers_of, biquad_bytes, preemphasis_bytes, butterworth_bytes}
use Rattle.c_windows.specs.Samples.{width_of, window_bytes}
use Rattle.c_windows.specs.declared.sample.Sample.{Sample}
use Rattle.promise_refusals.specs.Demand.{listed}
use Rattle.promise_refusals.specs.Verdicts.{of_loading}
use Rattle.promise_refusals.specs.Listed.{Listed}
use Rattle.promise_refusals.specs.Judgements.{whole_listed, with_listed, lowpass_listed, spec_design_listed, halfband_listed, gaussian_listed, gaussian_fitted_listed, rrc_listed, rrc_fitted_listed, channelizer_listed, channelizer_fitted_listed, biquad_listed, preemphasis_listed, butterworth_listed, load_listed, window_listed, where_listed}
use Rattle.fir_lowpass.specs.declared.lowpass.Lowpass.{Lowpass}
use Rattle.verdict.specs.declared.Refusal.{Refusal}
use Rattle.win_shapes.specs.declared.cosines.Cosines.{Cosines}

-- ---- the low-pass, by the window's code
pub lowpass_coded_lem : (cutoff rate : Float) (c : Option Window) (n : ℕ) → Listed (answered (Lowpass.outcome_of (lowpass_coded cutoff rate c n)))
unfolding report_of listed
lowpass_coded_lem cutoff rate (Some w) n = lowpass_listed cutoff rate w n
lowpass_coded_lem cutoff rate None n = tt

pub lowpass_bytes_lem : (cutoff rate : Float) (c : Option Window) (len : ℕ) → Listed (answered (lowpass_bytes cutoff rate c len))
unfolding report_of listed
lowpass_bytes_lem cutoff rate (Some w) len = whole_listed 8 len _ (lowpass_listed cutoff rate w (len / 8))
lowpass_bytes_lem cutoff rate None len = tt

pub spec_bytes_lem : (spec : DesignSpec) (rate : Float) (cap len : ℕ) → Listed (answered (spec_bytes spec rate cap len))
spec_bytes_lem spec rate cap len = whole_listed 8 len (Lowpass.outcome_of (spec_design_of spec rate cap (len / 8))) (spec_design_listed spec rate cap (len / 8))

pub channelizer_bytes_lem : (m l : ℕ) (passband stopband a : Float) (len : ℕ) → Listed (answered (channelizer_bytes m l passband stopband a len))
channelizer_bytes_lem m l passband stopband a len = whole_listed 8 len _ (channelizer_fitted_listed (Channelizer.channelizer_lowpass_of m l passband stopband a) (len / 8) (channelizer_listed m l passband stopband a))

-- ---- the low-pass whose record is kept, and the turns of its knob
abbrev DesignListed : Result Lowpass Refusal → Type 0
DesignListed d = Listed (answered (Lowpass.outcome_of d))

pub design_lowpass : (cutoff rate : Float) (window : ℕ) (beta : Float) (len : ℕ) → DesignListed (lowpass_for cutoff rate window beta len)
unfolding report_of listed
design_lowpass cutoff rate window beta len = lowpass_has DesignListed tt (λ a b. tt) cutoff rate window beta len (λ w n. lowpass_listed cutoff rate w n)

pub design_cutoff : (d : Design) (cutoff rate : Float) (len : ℕ) → DesignListed (cutoff_for d cutoff rate len)
unfolding report_of listed
design_cutoff d cutoff rate len = cutoff_has DesignListed tt (λ a b. tt) d cutoff rate len (λ w i0 n. with_listed cutoff rate w n i0)

pub design_beta : (d : Design) (beta : Float) (len : ℕ) → DesignListed (beta_for d beta len)
unfolding report_of listed
design_beta d beta len = beta_has DesignListed tt (λ a b. tt) d beta len (λ fc n. lowpass_listed fc (whole 1) (Kaiser beta) n)

-- ---- a window of cosines that is loaded
pub load_bytes_lem : (s : List ℕ) → Listed (of_loading (load_bytes s))
unfolding load_bytes report_of listed
load_bytes_lem s = either_way (λ (l : Result Cosines Refusal). Listed (of_loading l)) (eqb (length s % 8) 0) _ _ (load_listed (numbers_in s)) tt

-- ---- the half-band and the pulses
pub halfband_bytes_lem : (beta : Float) (len : ℕ) → Listed (answered (halfband_bytes beta len))
halfband_bytes_lem beta len = whole_listed 8 len (Halfband.outcome_of (Halfband.halfband_of beta (len / 8))) (halfband_listed beta (len / 8))

pub gaussian_bytes_lem : (bt : Float) (sps span len : ℕ) → Listed (answered (gaussian_bytes bt sps span len))
gaussian_bytes_lem bt sps span len = whole_listed 8 len _ (gaussian_fitted_listed (Gaussian.gaussian_of bt sps span) (len / 8) (gaussian_listed bt sps span))

pub rrc_bytes_lem : (rolloff : Float) (sps span len : ℕ) → Listed (answered (rrc_bytes rolloff sps span len))
rrc_bytes_lem rolloff sps span len = whole_listed 8 len _ (rrc_fitted_listed (Rrc.rrc_of rolloff sps span) (len / 8) (rrc_listed rolloff sps span))

-- ---- sections
numbers_listed : (v : Result (Unit {0}) Refusal) (xs : List Float) → Listed v → Listed (answered (numbers_of v xs))
numbers_listed (Ok tt) xs l = tt
numbers_listed (Err why) xs l = l

pub biquad_bytes_lem : (c : Option Response) (centre q rate : Float) (len : ℕ) → Listed (answered (biquad_bytes c centre q rate len))
unfolding report_of listed
biquad_bytes_lem (Some r) centre q rate len = either_way (λ (o : Outcome). Listed (answered o)) (eqb len 40) _ _ (numbers_listed (biquad_of r centre q rate).verdict (biquad_of r centre q rate).coefs (biquad_listed r centre q rate)) tt
biquad_bytes_lem None centre q rate len = tt

pub preemphasis_bytes_lem : (tau rate : Float) (len : ℕ) → Listed (answered (preemphasis_bytes tau rate len))
unfolding report_of listed
preemphasis_bytes_lem tau rate len = either_way (λ (o : Outcome). Listed (answered o)) (eqb len 24) _ _ (numbers_listed (preemphasis_of tau rate).verdict (preemphasis_of tau rate).coefs (preemphasis_listed tau rate)) tt

pub butterworth_bytes_lem : (c : Option Response) (order : ℕ) (cutoff rate : Float) (len : ℕ) → Listed (answered (butterworth_bytes c order cutoff rate len))
unfolding report_of listed
butterworth_bytes_lem (Some r) order cutoff rate len = whole_listed 8 len (butterworth_of r order cutoff rate (len / 8)) (butterworth_listed r order cutoff rate (len / 8))
butterworth_bytes_lem None order cutoff rate len = tt

-- ---- windows
pub window_bytes_lem : (s : Sample) (shape : Shape) (c : Option Symmetry) (len : ℕ) → Listed (answered (window_bytes s shape c len))
unfolding report_of listed
window_bytes_lem s shape (Some symmetry) len = whole_listed (width_of s) len _ (where_listed (judgement_of shape symmetry (len / width_of s)) _ (window_listed shape symmetry (len / width_of s)) tt)
window_bytes_lem s shape None len = tt
