-- Every refusal that a ticket can come to has one of the refusals' numbers: of each judgement, whatever its numbers are.
-- Assumes nothing.
use Rattle.std.specs.Prelude.{ℕ, zero, suc, ◌-◌, ◌*◌, ◌/◌, ◌%◌, ◌&&◌, List, [], ◌∷◌, eqb, ltb, leb, length, get_or, Float, Err, Ok, Result, ℤ}
use Rattle.std.specs.Float.{nan}
use Rattle.std.specs.Float.Ieee.{lt}
use Rattle.std.specs.Float.Ieee.Scale.{finite}
use Rattle.laws.specs.Binary64.{◌⊕◌, ◌⊖◌, ◌⊗◌, ◌⊘◌, whole, fraction}
use Rattle.laws.specs.Cases.{either_way}
use Rattle.laws.specs.Prefix.{first_bad}
use Rattle.math_numbers.specs.Numbers.{positive}
use Rattle.math_unity.specs.Unity.{within, near_one}
use Rattle.math_round.specs.Whole.{abs_of}
use Rattle.verdict.specs.Report.{report_of}
use Rattle.verdict.specs.Outcome.{Outcome, answered, where_passed}
use Rattle.verdict.specs.Converts.{taken_of, groups_of, then_of}
use Rattle.verdict.specs.declared.Refusal.{Refusal}
use Rattle.wire.specs.Writes.{whole_elements}
use Rattle.fmt_q15.specs.Q15 as Q15
use Rattle.fmt_q14.specs.Q14 as Q14
use Rattle.math_bessel.specs.declared.Series.{Series}
use Rattle.win_sampled.specs.Shapes.{shape_taken, divisor_of, series_settle, judgement_of}
use Rattle.win_sampled.specs.declared.shape.Shape.{Shape}
use Rattle.win_sampled.specs.declared.shape.Symmetry.{Symmetry}
use Rattle.fir_length.specs.Kaiser.{beta_of, estimate, order_of, lengthened, halfband_len_of}
use Rattle.fir_length.specs.declared.order.Order.{Order}
use Rattle.fir_delay.specs.Delay.{delay_of}
use Rattle.fir_sinc.specs.Windows.{norm_of}
use Rattle.fir_sinc.specs.declared.window.Window.{Window}
use Rattle.fir_sinc.specs.declared.window.Window.TheVariants.{Kaiser}
use Rattle.fir_lowpass.specs.Lowpass as Lowpass
use Rattle.fir_spec.specs.Spec as Spec
use Rattle.fir_spec.specs.declared.DesignSpec.{DesignSpec}
use Rattle.fir_halfband.specs.Halfband as Halfband
use Rattle.fir_gaussian.specs.Gaussian as Gaussian
use Rattle.fir_rrc.specs.Rrc as Rrc
use Rattle.fir_channelizer.specs.Channelizer as Channelizer
use Rattle.iir_biquad.specs.Biquad.{centre_taken, quality_taken, biquad_of}
use Rattle.iir_biquad.specs.Preemphasis.{constant_taken, rate_taken, preemphasis_of}
use Rattle.iir_biquad.specs.declared.biquad.Biquad.{Biquad}
use Rattle.iir_biquad.specs.declared.biquad.Response.{Response}
use Rattle.iir_biquad.specs.declared.preemphasis.Preemphasis.{Preemphasis}
use Rattle.iir_butterworth.specs.Butterworth.{response_taken, order_taken, sections_of, butterworth_of}
use Rattle.win_cosines.specs.Load.{numbers_taken, load_of}
use Rattle.win_cosines.specs.Load as Load
use Rattle.c_formats.specs.Format.{Format}
use Rattle.c_formats.specs.Formats.{takes_of, outside_of}
use Rattle.c_formats.specs.Conversions.{lengths_of}
use Rattle.promise_refusals.specs.Demand.{listed}
use Rattle.promise_refusals.specs.Verdicts.{of_length, of_order, of_delay, of_coded, of_loading, of_series, of_samples}
use Rattle.promise_refusals.specs.Listed.{Listed}
use Rattle.fir_gaussian.specs.declared.gaussian_design.Gaussian.{Gaussian}
use Rattle.fir_rrc.specs.declared.design.Rrc.{Rrc}
use Rattle.fir_halfband.specs.declared.HalfbandDesign.{HalfbandDesign}
use Rattle.fir_lowpass.specs.declared.lowpass.Lowpass.{Lowpass}
use Rattle.win_shapes.specs.declared.cosines.Cosines.{Cosines}

-- ---- a length of elements of w bytes
pub whole_listed : (w len : ℕ) (o : Outcome) → Listed (answered o) → Listed (answered (whole_elements w len o))
unfolding report_of listed
whole_listed w len o l = either_way (λ (p : Outcome). Listed (answered p)) (eqb (len % w) 0) o (Outcome.Refused (Refusal.Length (len - len % w) len)) l tt

-- ---- the low-pass
abbrev LowpassListed : Result Lowpass Refusal → Type 0
LowpassListed d = Listed (answered (Lowpass.outcome_of d))

passed_listed : (v : Result (Unit {0}) Refusal) (d : Result Lowpass Refusal) → Listed v → LowpassListed d → LowpassListed (Lowpass.where_passed v d)
passed_listed (Ok tt) d l x = x
passed_listed (Err why) d l x = l

module _ (cutoff rate : Float) (w : Window) (n : ℕ) where
  judgement_listed : Listed (Lowpass.judgement_of cutoff rate w n)
  unfolding Lowpass.judgement_of report_of listed
  judgement_listed =
      let way = either_way Listed in
      way (positive rate) _ _ (way (Lowpass.inside (cutoff ⊘ rate)) _ _ (way (Lowpass.count_taken n) _ _ (way (Lowpass.beta_taken w) _ _ (way (Lowpass.series_settle w n) _ _ tt tt) tt) tt) tt) tt

  -- whatever its window is divided by
  pub with_listed : (i0 : Float) → LowpassListed (Lowpass.lowpass_with cutoff rate w i0 n)
  unfolding Lowpass.lowpass_with Lowpass.design_of report_of listed
  with_listed i0 = passed_listed (Lowpass.judgement_of cutoff rate w n) _ judgement_listed (either_way LowpassListed (Lowpass.usable (Lowpass.divisor_of (cutoff ⊘ rate) w i0 n)) _ _ tt tt)

  pub lowpass_listed : LowpassListed (Lowpass.lowpass_of cutoff rate w n)
  unfolding Lowpass.lowpass_of
  lowpass_listed = with_listed (norm_of w)

-- ---- Kaiser's lengths
module _ (ripple transition rate : Float) where
  pub order_listed : Listed (of_order (order_of ripple transition rate))
  unfolding order_of report_of listed
  order_listed =
      let a = abs_of ripple in
      let width = whole 2 ⊗ transition ⊘ rate in
      let way = either_way (λ (o : Result Order Refusal). Listed (of_order o)) in
      way (finite a) _ _ (way (lt a (whole 8)) _ _ tt (way (positive width) _ _ (way (lt (whole 16777216) (estimate a width)) _ _ tt tt) tt)) tt

lengthened_listed : (o : Result Order Refusal) → Listed (of_order o) → Listed (of_length (lengthened o))
lengthened_listed (Ok o) l = tt
lengthened_listed (Err why) l = l

pub halfband_len_listed : (transition attenuation rate : Float) → Listed (of_length (halfband_len_of transition attenuation rate))
unfolding halfband_len_of
halfband_len_listed transition attenuation rate = lengthened_listed (order_of attenuation transition rate) (order_listed attenuation transition rate)

pub delay_listed : (taps : ℕ) → Listed (of_delay (delay_of taps))
unfolding delay_of report_of listed
delay_listed zero = tt
delay_listed (suc n) = tt

-- ---- the specification
capped_listed : (o : Result Order Refusal) (cap : ℕ) → Listed (of_order o) → Listed (of_order (Spec.capped_of o cap))
unfolding report_of listed
capped_listed (Ok o) cap l = either_way (λ (r : Result Order Refusal). Listed (of_order r)) (ltb cap o.taps) (Err (Refusal.Cap o.taps cap)) (Ok o) tt tt
capped_listed (Err why) cap l = l

taps_listed : (o : Result Order Refusal) → Listed (of_order o) → Listed (of_length (Spec.taps_in o))
taps_listed (Ok o) l = tt
taps_listed (Err why) l = l

module _ (spec : DesignSpec) (rate : Float) where
  in_order : (o : Result Order Refusal) → Listed (of_order o) → LowpassListed (Spec.lowpass_in spec rate o)
  in_order (Ok o) l = lowpass_listed spec.cutoff rate (Kaiser o.beta) o.taps
  in_order (Err why) l = l

  in_buffer : (len : ℕ) (o : Result Order Refusal) → Listed (of_order o) → LowpassListed (Spec.design_in spec rate len o)
  unfolding report_of listed
  in_buffer len (Ok o) l = either_way LowpassListed (eqb o.taps len) (Lowpass.lowpass_of spec.cutoff rate (Kaiser o.beta) o.taps) (Err (Refusal.Length o.taps len)) (lowpass_listed spec.cutoff rate (Kaiser o.beta) o.taps) tt
  in_buffer len (Err why) l = l

  module _ (cap : ℕ) where
    pub spec_order_listed : Listed (of_order (Spec.spec_order_of spec rate cap))
    unfolding Spec.spec_order_of report_of listed
    spec_order_listed =
        let way = either_way (λ (o : Result Order Refusal). Listed (of_order o)) in
        way (positive rate) _ _
        (way (positive spec.transition) _ _
        (way (Spec.cutoff_taken spec.cutoff (rate ⊘ whole 2 ⊖ spec.transition ⊘ whole 2)) _ _
        (capped_listed (order_of spec.attenuation spec.transition rate) cap (order_listed spec.attenuation spec.transition rate))
        tt)
        tt)
        tt

    pub num_taps_listed : Listed (of_length (Spec.num_taps_of spec rate cap))
    unfolding Spec.num_taps_of
    num_taps_listed = taps_listed (Spec.spec_order_of spec rate cap) spec_order_listed

    pub spec_lowpass_listed : LowpassListed (Spec.spec_lowpass_of spec rate cap)
    unfolding Spec.spec_lowpass_of
    spec_lowpass_listed = in_order (Spec.spec_order_of spec rate cap) spec_order_listed

    pub spec_design_listed : (len : ℕ) → LowpassListed (Spec.spec_design_of spec rate cap len)
    unfolding Spec.spec_design_of
    spec_design_listed len = in_buffer len (Spec.spec_order_of spec rate cap) spec_order_listed

-- ---- the half-band
module _ (beta : Float) (n : ℕ) where
  abbrev HalfbandListed : Result HalfbandDesign Refusal → Type 0
  HalfbandListed d = Listed (answered (Halfband.outcome_of d))

  of_quarter : (q : Result Lowpass Refusal) → LowpassListed q → HalfbandListed (Halfband.halfband_in n q)
  unfolding report_of listed
  of_quarter (Ok l) x = either_way HalfbandListed (Lowpass.usable (Halfband.divisor_of l n)) _ _ tt tt
  of_quarter (Err why) x = x

  pub halfband_listed : HalfbandListed (Halfband.halfband_of beta n)
  unfolding Halfband.halfband_of report_of listed
  halfband_listed = either_way HalfbandListed (Halfband.length_taken n) _ _ (of_quarter (Halfband.quarter_of beta n) (lowpass_listed (fraction 1 4) (whole 1) (Kaiser beta) n)) tt

-- ---- the Gaussian
abbrev GaussianListed : Result Gaussian Refusal → Type 0
GaussianListed d = Listed (answered (Gaussian.outcome_of d))

pub gaussian_listed : (bt : Float) (sps span : ℕ) → GaussianListed (Gaussian.gaussian_of bt sps span)
unfolding Gaussian.gaussian_of report_of listed
gaussian_listed bt sps span =
    let way = either_way GaussianListed in
    way (Gaussian.bt_taken bt) _ _ (way (Gaussian.span_taken span) _ _ (way (Gaussian.samples_taken sps (16777215 / span)) _ _ tt tt) tt) tt

pub gaussian_fitted_listed : (d : Result Gaussian Refusal) (len : ℕ) → GaussianListed d → GaussianListed (Gaussian.fitted_of d len)
unfolding report_of listed
gaussian_fitted_listed (Ok g) len l = either_way GaussianListed (eqb g.n len) _ _ tt tt
gaussian_fitted_listed (Err why) len l = l

-- ---- the root-raised cosine
pub rrc_len_listed : (sps span : ℕ) → Listed (of_length (Rrc.rrc_len_of sps span))
unfolding Rrc.rrc_len_of report_of listed
rrc_len_listed sps span =
    let way = either_way (λ (l : Result ℕ Refusal). Listed (of_length l)) in
    way (Rrc.sampled sps) _ _ (way (Rrc.spanned span) _ _ tt tt) tt

abbrev RrcListed : Result Rrc Refusal → Type 0
RrcListed d = Listed (answered (Rrc.outcome_of d))

rrc_in_lem : (rolloff : Float) (sps : ℕ) (l : Result ℕ Refusal) → Listed (of_length l) → RrcListed (Rrc.rrc_in rolloff sps l)
rrc_in_lem rolloff sps (Ok n) x = tt
rrc_in_lem rolloff sps (Err why) x = x

pub rrc_listed : (rolloff : Float) (sps span : ℕ) → RrcListed (Rrc.rrc_of rolloff sps span)
unfolding Rrc.rrc_of report_of listed
rrc_listed rolloff sps span = either_way RrcListed (Rrc.rolloff_taken rolloff) _ _ (rrc_in_lem rolloff sps (Rrc.rrc_len_of sps span) (rrc_len_listed sps span)) tt

pub rrc_fitted_listed : (d : Result Rrc Refusal) (len : ℕ) → RrcListed d → RrcListed (Rrc.fitted_of d len)
unfolding report_of listed
rrc_fitted_listed (Ok d) len l = either_way RrcListed (eqb d.n len) _ _ tt tt
rrc_fitted_listed (Err why) len l = l

-- ---- the channelizer
edges_listed : (passband stopband a : Float) → Listed (Channelizer.edges_of passband stopband a)
unfolding Channelizer.edges_of report_of listed
edges_listed passband stopband a =
    let way = either_way Listed in
    way (positive passband) _ _ (way (Channelizer.stop_taken passband stopband) _ _ (way (Channelizer.attenuation_taken a) _ _ tt tt) tt) tt

edges_taps : (v : Result (Unit {0}) Refusal) (num : Float) → Listed v → Listed (of_length (Channelizer.taps_in v num))
unfolding report_of listed
edges_taps (Ok tt) num l = either_way (λ (n : Result ℕ Refusal). Listed (of_length n)) (Channelizer.count_taken num) _ _ tt tt
edges_taps (Err why) num l = l

pub channelizer_taps_listed : (m : ℕ) (passband stopband a : Float) → Listed (of_length (Channelizer.channelizer_taps_of m passband stopband a))
unfolding Channelizer.channelizer_taps_of report_of listed
channelizer_taps_listed m passband stopband a = either_way (λ (l : Result ℕ Refusal). Listed (of_length l)) (Channelizer.channels_taken m) _ _ (edges_taps (Channelizer.edges_of passband stopband a) _ (edges_listed passband stopband a)) tt

pub branch_listed : (m : ℕ) (l : Result ℕ Refusal) → Listed (of_length l) → Listed (of_length (Channelizer.branch_of m l))
branch_listed m (Ok n) x = tt
branch_listed m (Err why) x = x

pub channelizer_listed : (m l : ℕ) (passband stopband a : Float) → LowpassListed (Channelizer.channelizer_lowpass_of m l passband stopband a)
unfolding Channelizer.channelizer_lowpass_of report_of listed
channelizer_listed m l passband stopband a =
    let way = either_way LowpassListed in
    way (Channelizer.channels_taken m) _ _
    (way (Channelizer.branch_taken l) _ _
    (passed_listed (Channelizer.edges_of passband stopband a) _ (edges_listed passband stopband a) (lowpass_listed ((passband ⊕ stopband) ⊘ (whole 2 ⊗ whole m)) (whole 1) (Kaiser (beta_of a)) (m * l)))
    tt)
    tt

pub channelizer_fitted_listed : (d : Result Lowpass Refusal) (len : ℕ) → LowpassListed d → LowpassListed (Channelizer.fitted_of d len)
unfolding report_of listed
channelizer_fitted_listed (Ok l) len x = either_way LowpassListed (eqb l.n len) _ _ tt tt
channelizer_fitted_listed (Err why) len x = x

-- ---- sections
pub biquad_listed : (r : Response) (centre q rate : Float) → Listed (biquad_of r centre q rate).verdict
unfolding biquad_of report_of listed
biquad_listed r centre q rate =
    let way = either_way (λ (b : Biquad). Listed b.verdict) in
    way (centre_taken centre rate) _ _ (way (quality_taken q) _ _ tt tt) tt

pub preemphasis_listed : (tau rate : Float) → Listed (preemphasis_of tau rate).verdict
unfolding preemphasis_of report_of listed
preemphasis_listed tau rate =
    let way = either_way (λ (p : Preemphasis). Listed p.verdict) in
    way (constant_taken tau) _ _ (way (rate_taken rate) _ _ tt tt) tt

pub butterworth_listed : (r : Response) (order : ℕ) (cutoff rate : Float) (len : ℕ) → Listed (answered (butterworth_of r order cutoff rate len))
unfolding butterworth_of report_of listed
butterworth_listed r order cutoff rate len =
    let way = either_way (λ (o : Outcome). Listed (answered o)) in
    way (response_taken r) _ _ (way (order_taken order) _ _ (way (eqb len (sections_of order * 5)) _ _ (way (centre_taken cutoff rate) _ _ tt tt) tt) tt) tt

-- ---- numbers in other formats
pub q15_listed : (i : ℕ) (x : Float) → Listed (of_coded (Q15.q15_tap_of i x))
unfolding Q15.q15_tap_of report_of listed
q15_listed i x = either_way (λ (c : Result ℤ Refusal). Listed (of_coded c)) (Q15.takes x) _ _ tt tt

pub q14_listed : (i : ℕ) (x : Float) → Listed (of_coded (Q14.q14_tap_of i x))
unfolding Q14.q14_tap_of report_of listed
q14_listed i x = either_way (λ (c : Result ℤ Refusal). Listed (of_coded c)) (Q14.takes x) _ _ tt tt

pub lengths_listed : (w g m len : ℕ) → Listed (lengths_of w g m len)
unfolding lengths_of groups_of report_of listed
lengths_listed w g m len =
    let way = either_way Listed in
    way (eqb (m % 8) 0) _ _ (way (eqb (len % w) 0) _ _ (way (eqb (m / 8 % g) 0) _ _ (way (eqb (m / 8) (len / w)) _ _ tt tt) tt) tt) tt

outside_listed : (f : Format) (i : ℕ) (x : Float) → Listed (Err (outside_of f i x))
unfolding outside_of report_of listed
outside_listed Format.Q15 i x = tt
outside_listed Format.Q14 i x = tt
outside_listed Format.Single i x = tt

pub taken_listed : (f : Format) (s : List Float) → Listed (taken_of (takes_of f) (outside_of f) s)
unfolding taken_of
taken_listed f s =
    let k = first_bad (takes_of f) s in
    either_way Listed (eqb k (length s)) (Ok tt) (Err (outside_of f k (get_or s k nan))) tt (outside_listed f k (get_or s k nan))

pub then_listed : (v w : Result (Unit {0}) Refusal) → Listed v → Listed w → Listed (then_of v w)
then_listed (Ok tt) w l m = m
then_listed (Err why) w l m = l

-- ---- windows
pub window_listed : (shape : Shape) (symmetry : Symmetry) (n : ℕ) → Listed (judgement_of shape symmetry n)
unfolding judgement_of report_of listed
window_listed shape symmetry n =
    let way = either_way Listed in
    way (shape_taken shape) _ _ (way (series_settle shape (divisor_of symmetry n) n) _ _ tt tt) tt

pub where_listed : (v : Result (Unit {0}) Refusal) (o : Outcome) → Listed v → Listed (answered o) → Listed (answered (where_passed v o))
where_listed (Ok tt) o l x = x
where_listed (Err why) o l x = l

-- ---- a window of cosines that is loaded
numbers_listed : (cs : List Float) → Listed (numbers_taken cs)
unfolding numbers_taken report_of listed
numbers_listed [] = tt
numbers_listed (x ∷ xs) = either_way Listed (within x) _ _ (numbers_listed xs) tt

abbrev LoadListed : Result Cosines Refusal → Type 0
LoadListed l = Listed (of_loading l)

load_passed : (v : Result (Unit {0}) Refusal) (l : Result Cosines Refusal) → Listed v → LoadListed l → LoadListed (Load.where_passed v l)
load_passed (Ok tt) l x y = y
load_passed (Err why) l x y = x

pub load_listed : (cs : List Float) → LoadListed (load_of cs)
unfolding load_of report_of listed
load_listed cs =
    let way = either_way LoadListed in
    way (leb 1 (length cs) && leb (length cs) 5) _ _ (load_passed (numbers_taken cs) _ (numbers_listed cs) (way (near_one cs) _ _ tt tt)) tt

-- ---- the series, and a window's gain
pub series_listed : (s : Series) → Listed (of_series s)
unfolding report_of listed
series_listed s = either_way Listed s.settled _ _ tt tt

pub samples_listed : (s : List ℕ) → Listed (of_samples s)
unfolding report_of listed
samples_listed s = either_way Listed (eqb (length s % 4) 0) _ _ tt tt
