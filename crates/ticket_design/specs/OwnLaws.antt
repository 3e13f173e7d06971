-- A ticket is judged as its kind is without a buffer: a design is the same with a buffer of its own length. Assumes
-- nothing.
use Rattle.std.specs.Prelude.{◌≡◌, refl, Bool, true, false, cond, ℕ, ◌+◌, ◌*◌, ◌/◌, Float, Err, Ok, Result}
use Rattle.std.proofs.Common.{ap, eq-eqb}
use Rattle.verdict.specs.declared.Refusal.{Refusal}
use Rattle.verdict.specs.Counted.{Counted}
use Rattle.fir_length.specs.declared.order.Order.{Order}
use Rattle.fir_lowpass.specs.Lowpass.{where_passed, lowpass_of, outcome_of}
use Rattle.fir_lowpass.proofs.LowpassLaws.{lowpass_count}
use Rattle.fir_spec.specs.Spec.{lowpass_in, design_in, taps_in as length_in, num_taps_of, spec_order_of, spec_lowpass_of, spec_design_of}
use Rattle.fir_spec.specs.declared.DesignSpec.{DesignSpec}
use Rattle.fir_gaussian.specs.Gaussian as Gaussian
use Rattle.fir_gaussian.specs.declared.gaussian_design.Gaussian.{Gaussian}
use Rattle.fir_rrc.specs.Rrc as Rrc
use Rattle.fir_channelizer.specs.Channelizer as Channelizer
use Rattle.fir_halfband.specs.Halfband as Halfband
use Rattle.ticket_kinds.specs.declared.LowpassTicket.{LowpassTicket}
use Rattle.ticket_kinds.specs.declared.SpecTicket.{SpecTicket}
use Rattle.ticket_kinds.specs.declared.HalfbandTicket.{HalfbandTicket}
use Rattle.ticket_kinds.specs.declared.GaussianTicket.{GaussianTicket}
use Rattle.ticket_kinds.specs.declared.RrcTicket.{RrcTicket}
use Rattle.ticket_kinds.specs.declared.ChannelizerTicket.{ChannelizerTicket}
use Rattle.ticket_kinds.specs.declared.Ticket.TheVariants as Ticket
use Rattle.ticket_design.specs.Design.{float, window_for, spec_for, taps_in, ticket_outcome, own_length, judgement_of}
use Rattle.fir_lowpass.specs.declared.lowpass.Lowpass.{Lowpass}

-- ---- by its specification
spec_own : (spec : DesignSpec) (rate : Float) (cap : ℕ) → spec_design_of spec rate cap (taps_in (num_taps_of spec rate cap)) ≡ spec_lowpass_of spec rate cap
unfolding spec_design_of spec_lowpass_of num_taps_of
spec_own spec rate cap = go (spec_order_of spec rate cap)
  where
    go : (o : Result Order Refusal) → design_in spec rate (taps_in (length_in o)) o ≡ lowpass_in spec rate o
    go (Ok o) = rw (eq-eqb o.taps o.taps refl)
    go (Err why) = refl

-- ---- pulses
gaussian_own : (bt : Float) (samples span : ℕ) → Gaussian.fitted_of (Gaussian.gaussian_of bt samples span) (span * samples + 1) ≡ Gaussian.gaussian_of bt samples span
unfolding Gaussian.gaussian_of Gaussian.made_of
gaussian_own bt samples span = go (Gaussian.bt_taken bt) (Gaussian.span_taken span) (Gaussian.samples_taken samples (16777215 / span)) _ refl _ _ _
  where
    go : (a b c : Bool) (g : Gaussian) → g.n ≡ span * samples + 1 → (x y z : Refusal) →
        let d = cond a (cond b (cond c (Ok g) (Err x)) (Err y)) (Err z) in
        Gaussian.fitted_of d (span * samples + 1) ≡ d
    go true true true g e x y z = rw (eq-eqb g.n (span * samples + 1) e)
    go true true false g e x y z = refl
    go true false c g e x y z = refl
    go false b c g e x y z = refl

rrc_own : (rolloff : Float) (samples span : ℕ) → Rrc.fitted_of (Rrc.rrc_of rolloff samples span) (span * samples + 1) ≡ Rrc.rrc_of rolloff samples span
unfolding Rrc.rrc_of Rrc.rrc_len_of
rrc_own rolloff samples span = go (Rrc.rolloff_taken rolloff) (Rrc.sampled samples) (Rrc.spanned span) _ _ _
  where
    go : (a b c : Bool) (x y z : Refusal) →
        let d = cond a (Rrc.rrc_in rolloff samples (cond b (cond c (Ok (span * samples + 1)) (Err x)) (Err y))) (Err z) in
        Rrc.fitted_of d (span * samples + 1) ≡ d
    go true true true x y z = rw (eq-eqb (span * samples + 1) (span * samples + 1) refl)
    go true true false x y z = refl
    go true false c x y z = refl
    go false b c x y z = refl

-- ---- a channelizer's prototype
fits : (n : ℕ) (d : Result Lowpass Refusal) → Counted n (outcome_of d) → Channelizer.fitted_of d n ≡ d
fits n (Ok l) e = rw (eq-eqb l.n n e)
fits n (Err why) e = refl

channelizer_own : (m l : ℕ) (passband stopband a : Float) → Channelizer.fitted_of (Channelizer.channelizer_lowpass_of m l passband stopband a) (m * l) ≡ Channelizer.channelizer_lowpass_of m l passband stopband a
unfolding Channelizer.channelizer_lowpass_of
channelizer_own m l passband stopband a = fits (m * l) _ (go (Channelizer.channels_taken m) (Channelizer.branch_taken l) (Channelizer.edges_of passband stopband a) _ (lowpass_count _ _ _ (m * l)) _ _)
  where
    go : (b c : Bool) (v : Result (Unit {0}) Refusal) (d : Result Lowpass Refusal) → Counted (m * l) (outcome_of d) → (x y : Refusal) → Counted (m * l) (outcome_of (cond b (cond c (where_passed v d) (Err x)) (Err y)))
    go true true (Ok tt) d h x y = h
    go true true (Err why) d h x y = tt
    go true false v d h x y = tt
    go false c v d h x y = tt

-- ---- so each kind is judged
pub judged_lowpass : (t : LowpassTicket) → judgement_of (Ticket.Lowpass t) ≡ outcome_of (lowpass_of (float t.cutoff) (float t.rate) (window_for t.window) t.count)
unfolding ticket_outcome own_length
judged_lowpass t = rw (eq-eqb t.count t.count refl)

pub judged_spec : (t : SpecTicket) → judgement_of (Ticket.Spec t) ≡ outcome_of (spec_lowpass_of (spec_for t) (float t.rate) t.cap)
unfolding ticket_outcome own_length
judged_spec t = ap outcome_of (spec_own (spec_for t) (float t.rate) t.cap)

pub judged_halfband : (t : HalfbandTicket) → judgement_of (Ticket.Halfband t) ≡ Halfband.outcome_of (Halfband.halfband_of (float t.beta) t.count)
unfolding ticket_outcome own_length
judged_halfband t = rw (eq-eqb t.count t.count refl)

pub judged_gaussian : (t : GaussianTicket) → judgement_of (Ticket.Gaussian t) ≡ Gaussian.outcome_of (Gaussian.gaussian_of (float t.bt) t.samples t.span)
unfolding ticket_outcome own_length
judged_gaussian t = ap Gaussian.outcome_of (gaussian_own (float t.bt) t.samples t.span)

pub judged_rrc : (t : RrcTicket) → judgement_of (Ticket.Rrc t) ≡ Rrc.outcome_of (Rrc.rrc_of (float t.rolloff) t.samples t.span)
unfolding ticket_outcome own_length
judged_rrc t = ap Rrc.outcome_of (rrc_own (float t.rolloff) t.samples t.span)

pub judged_channelizer : (t : ChannelizerTicket) → judgement_of (Ticket.Channelizer t) ≡ outcome_of (Channelizer.channelizer_lowpass_of t.channels t.branch (float t.passband) (float t.stopband) (float t.attenuation))
unfolding ticket_outcome own_length
judged_channelizer t = ap outcome_of (channelizer_own t.channels t.branch (float t.passband) (float t.stopband) (float t.attenuation))
