-- What comes of a ticket of any kind, designed into a buffer or judged without one. Definitions only.
use Rattle.std.specs.Prelude.{ℕ, ◌+◌, ◌*◌, ◌/◌, cond, eqb, Float, Err, Ok, Result}
use Rattle.std.specs.Float.{binary64}
use Rattle.std.specs.Float.Ieee.{of_bits}
use Rattle.verdict.specs.declared.Refusal.TheVariants as Refusal
use Rattle.verdict.specs.Outcome.{Outcome}
use Rattle.wire.specs.Writes.{whole_taps}
use Rattle.fir_sinc.specs.declared.window.Window.{Window}
use Rattle.fir_lowpass.specs.Lowpass as Lowpass
use Rattle.fir_spec.specs.Spec.{num_taps_of, spec_design_of}
use Rattle.fir_spec.specs.declared.DesignSpec.{DesignSpec}
use Rattle.fir_halfband.specs.Halfband as Halfband
use Rattle.fir_gaussian.specs.Gaussian as Gaussian
use Rattle.fir_rrc.specs.Rrc as Rrc
use Rattle.fir_channelizer.specs.Channelizer as Channelizer
use Rattle.ticket_kinds.specs.declared.TicketWindow.{TicketWindow}
use Rattle.ticket_kinds.specs.declared.SpecTicket.{SpecTicket}
use Rattle.ticket_kinds.specs.declared.Ticket.{Ticket}
use Rattle.verdict.specs.declared.Refusal.{Refusal}

-- ---- "floats stand as their bits"
abbrev pub float : ℕ → Float
float bits = of_bits binary64 bits

abbrev pub window_for : TicketWindow → Window
window_for TicketWindow.Hann = Window.Hann
window_for TicketWindow.Hamming = Window.Hamming
window_for TicketWindow.Blackman = Window.Blackman
window_for (TicketWindow.Kaiser beta) = Window.Kaiser (float beta)
window_for (TicketWindow.Loaded c) = Window.Cosines c

abbrev pub spec_for : SpecTicket → DesignSpec
spec_for t = record { cutoff = float t.cutoff; transition = float t.transition; attenuation = float t.attenuation }

-- ---- a ticket designed into a buffer of n taps
-- "a low-pass or half-band count that isn't its buffer's length is 8 then, before the designer's own numbers"
abbrev pub where_counted : ℕ → ℕ → Outcome → Outcome
where_counted count n o = cond (eqb count n) o (Outcome.Refused (Refusal.Length count n))

unfoldable pub ticket_outcome : Ticket → ℕ → Outcome
ticket_outcome (Ticket.Lowpass t) n = where_counted t.count n (Lowpass.outcome_of (Lowpass.lowpass_of (float t.cutoff) (float t.rate) (window_for t.window) n))
ticket_outcome (Ticket.Spec t) n = Lowpass.outcome_of (spec_design_of (spec_for t) (float t.rate) t.cap n)
ticket_outcome (Ticket.Halfband t) n = where_counted t.count n (Halfband.outcome_of (Halfband.halfband_of (float t.beta) n))
ticket_outcome (Ticket.Gaussian t) n = Gaussian.outcome_of (Gaussian.fitted_of (Gaussian.gaussian_of (float t.bt) t.samples t.span) n)
ticket_outcome (Ticket.Rrc t) n = Rrc.outcome_of (Rrc.fitted_of (Rrc.rrc_of (float t.rolloff) t.samples t.span) n)
ticket_outcome (Ticket.Channelizer t) n = Lowpass.outcome_of (Channelizer.fitted_of (Channelizer.channelizer_lowpass_of t.channels t.branch (float t.passband) (float t.stopband) (float t.attenuation)) n)

-- eight bytes a tap
abbrev pub ticket_bytes : Ticket → ℕ → Outcome
ticket_bytes t len = whole_taps len (ticket_outcome t (len / 8))

-- ---- "as designed into a buffer of its own length": a specification without a length has none, and 0 serves
abbrev pub taps_in : Result ℕ Refusal → ℕ
taps_in (Ok n) = n
taps_in (Err why) = 0

unfoldable pub own_length : Ticket → ℕ
own_length (Ticket.Lowpass t) = t.count
own_length (Ticket.Spec t) = taps_in (num_taps_of (spec_for t) (float t.rate) t.cap)
own_length (Ticket.Halfband t) = t.count
own_length (Ticket.Gaussian t) = t.span * t.samples + 1
own_length (Ticket.Rrc t) = t.span * t.samples + 1
own_length (Ticket.Channelizer t) = t.channels * t.branch

abbrev pub judgement_of : Ticket → Outcome
judgement_of t = ticket_outcome t (own_length t)
