-- The record of a low-pass that C keeps, and what comes of it with a buffer of bytes: of the first design, and of each
-- turn of the knob. Definitions only.
use Rattle.std.specs.Prelude.{ℕ, ◌-◌, ◌/◌, ◌%◌, ◌≡◌, cond, List, eqb, Float, Err, None, Ok, Option, Result, Some}
use Rattle.laws.specs.Binary64.{whole}
use Rattle.verdict.specs.Report.{report_of}
use Rattle.verdict.specs.declared.Refusal.{Refusal}
use Rattle.verdict.specs.declared.Refusal.TheVariants.{Plain, Length}
use Rattle.wire.specs.Bytes.{float_bytes}
use Rattle.wire.specs.Writes.{Writes}
use Rattle.fir_sinc.specs.declared.window.Window.{Window}
use Rattle.fir_lowpass.specs.Lowpass.{lowpass_of, outcome_of}
use Rattle.fir_lowpass.specs.declared.lowpass.Lowpass.{Lowpass}
use Rattle.fir_retune.specs.Retune.{new_cutoff_of, new_beta_of}
use Rattle.ticket_codes.specs.Codes.{window_of, code_of, shape_of}
use Rattle.c_retune.specs.declared.record.Design.{Design}
use Rattle.c_retune.specs.declared.write.Tuned.{Tuned}
use Rattle.verdict.specs.declared.Reason.TheVariants as Reason

-- ---- the record
-- of a low-pass: its window by the code, and beta, 0 for a window that has none
abbrev pub design_as : Lowpass → Design
design_as l = record { taps = l.n; fraction = l.fc; window = code_of l.window; beta = shape_of l.window; series = l.i0; sum = l.sum }

-- the low-pass that a record says, its code standing for w
abbrev pub lowpass_as : Design → Window → Lowpass
lowpass_as d w = record { n = d.taps; fc = d.fraction; window = w; i0 = d.series; sum = d.sum }

-- the record in place of a design that was refused
abbrev pub none : Design
none = record { taps = 0; fraction = whole 0; window = 0; beta = whole 0; series = whole 0; sum = whole 0 }

-- ---- with a buffer of len bytes
-- whole taps, or 8 in bytes
abbrev pub whole_in : ℕ → Result Lowpass Refusal → Result Lowpass Refusal
whole_in len d = cond (eqb (len % 8) 0) d (Err (Length (len - len % 8) len))

-- for n taps, or 8 in taps
abbrev pub fits_in : ℕ → ℕ → Result Lowpass Refusal → Result Lowpass Refusal
fits_in n len d = whole_in len (cond (eqb n (len / 8)) d (Err (Length n (len / 8))))

-- the low-pass that is read of a record: 7 for a code that no window has, then 8, then 8
abbrev pub read_in : Design → ℕ → Option Window → Result Lowpass Refusal
read_in d len (Some w) = fits_in d.taps len (Ok (lowpass_as d w))
read_in d len None = Err (Plain Reason.Code)

abbrev pub read_of : Design → ℕ → Result Lowpass Refusal
read_of d len = read_in d len (window_of d.window d.beta)

-- and what comes of it
abbrev pub then_of : (Lowpass → Result Lowpass Refusal) → Result Lowpass Refusal → Result Lowpass Refusal
then_of f (Ok l) = f l
then_of f (Err why) = Err why

-- ---- the first design and the two turns
abbrev pub lowpass_in : Float → Float → ℕ → Option Window → Result Lowpass Refusal
lowpass_in cutoff rate len (Some w) = whole_in len (lowpass_of cutoff rate w (len / 8))
lowpass_in cutoff rate len None = Err (Plain Reason.Code)

unfoldable pub lowpass_for : Float → Float → ℕ → Float → ℕ → Result Lowpass Refusal
lowpass_for cutoff rate window beta len = lowpass_in cutoff rate len (window_of window beta)

unfoldable pub cutoff_for : Design → Float → Float → ℕ → Result Lowpass Refusal
cutoff_for d cutoff rate len = then_of (λ l. new_cutoff_of l cutoff rate) (read_of d len)

-- 7 for a window other than Kaiser's, whose code is 3, before anything else
unfoldable pub beta_for : Design → Float → ℕ → Result Lowpass Refusal
beta_for d beta len = cond (eqb d.window 3) (then_of (λ l. new_beta_of l beta) (read_of d len)) (Err (Plain Reason.Code))

-- ---- what is answered and left
-- the record afterwards: that of the new design, or as it came
abbrev pub afterwards : Design → Result Lowpass Refusal → Design
afterwards d (Ok l) = design_as l
afterwards d (Err why) = d

abbrev pub left_of : Design → Refusal → Tuned
left_of d why = record { design = d; report = report_of why }

-- the answer and the buffer, where d was kept and x comes of it
pub record Tunes (d : Design) (x : Result Lowpass Refusal) (before : List ℕ) (r : Tuned) (after : List ℕ) : Type 0 where
  pub writes : Writes float_bytes (outcome_of x) before r.report after
  pub design : r.design ≡ afterwards d x
