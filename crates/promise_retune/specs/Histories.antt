-- The knob of a low-pass as C turns it: any list of calls, refused ones included, each with the record that the one
-- before answered. Definitions only.
--   "After any list of them, begun on a designed record, the record equals one designed from the last accepted numbers,
--   and the kept value is always the series at the kept beta. A refused retune leaves the record."
use Rattle.std.specs.Prelude.{ℕ, ◌≡◌, List, [], ◌∷◌, T, length, Float, Ok, Result, Some}
use Rattle.wire.specs.Bytes.{float_bytes}
use Rattle.wire.specs.Writes.{Writes, written}
use Rattle.fir_sinc.specs.declared.window.Window.{Window}
use Rattle.fir_lowpass.specs.Lowpass.{outcome_of}
use Rattle.fir_lowpass.specs.declared.lowpass.Lowpass.{Lowpass}
use Rattle.fir_retune.specs.Retune.{where_kaiser}
use Rattle.fir_retune.specs.Operations.{Numbers, designed_from, Operation, NewCutoff, NewBeta, placed, accepted_in}
use Rattle.ticket_codes.specs.Codes.{window_of, has_code}
use Rattle.c_retune.specs.Designs.{design_as, fits_in}
use Rattle.c_retune.specs.declared.record.Design.{Design}
use Rattle.c_retune.specs.declared.write.Tuned.{Tuned}
use Rattle.verdict.specs.declared.Refusal.{Refusal}

-- ---- numbers alone
-- what comes of an operation with a buffer of len bytes, where the numbers t were accepted last: 7 for a new beta of a
-- window other than Kaiser's, then the buffer's 8 and 8, then what the numbers are designed to
abbrev pub comes_with : Numbers → Operation → ℕ → Result Lowpass Refusal
comes_with t (NewCutoff cutoff rate) len = fits_in t.n len (designed_from (placed t (NewCutoff cutoff rate)))
comes_with t (NewBeta beta) len = where_kaiser t.window (fits_in t.n len (designed_from (placed t (NewBeta beta))))

-- the last accepted numbers after it
abbrev pub accepted_with : Numbers → Operation → ℕ → Numbers
accepted_with t o len = accepted_in t o (comes_with t o len)

-- ---- the record
-- d is the record of the low-pass that is designed from the numbers t, whose window has a code
pub record DesignedAs (t : Numbers) (d : Design) : Type 0 where
  pub coded : T (has_code t.window)
  pub design : Lowpass
  pub from : designed_from t ≡ Ok design
  pub is : d ≡ design_as design

-- ---- a call
-- the operation, the record and the buffer that went in, the answer, and the buffer afterwards
pub record Call : Type 0 where
  pub turn : Operation
  pub kept : Design
  pub before : List ℕ
  pub answer : Tuned
  pub after : List ℕ

abbrev pub call_of : Operation → Design → List ℕ → Tuned → List ℕ → Call
call_of o d before r after = record { turn = o; kept = d; before = before; answer = r; after = after }

-- after the numbers t: it is answered and fills the buffer, or leaves it, as a design from numbers; the record that it
-- answers is designed from the numbers accepted last
pub record Advances (t : Numbers) (c : Call) : Type 0 where
  pub writes : Writes float_bytes (outcome_of (comes_with t c.turn (length c.before))) c.before c.answer.report c.after
  pub designed : DesignedAs (accepted_with t c.turn (length c.before)) c.answer.design

-- what is promised of every call: where its record is one that was designed, from whatever numbers, it advances
abbrev pub Promised : Call → Type 0
Promised c = (t : Numbers) → DesignedAs t c.kept → Advances t c

-- ---- a list of calls
-- begun with the record d, each is given the record that the one before answered
unfoldable pub Follows : Design → List Call → Type 0
Follows d [] = Unit {0}
Follows d (c ∷ cs) = (c.kept ≡ d) × Promised c × Follows c.answer.design cs

-- the record at the end, and the numbers that were accepted last
unfoldable pub last_record : Design → List Call → Design
last_record d [] = d
last_record d (c ∷ cs) = last_record c.answer.design cs

unfoldable pub last_numbers : Numbers → List Call → Numbers
last_numbers t [] = t
last_numbers t (c ∷ cs) = last_numbers (accepted_with t c.turn (length c.before)) cs

-- each of them advances from the numbers that were accepted before it
unfoldable pub AllAdvance : Numbers → List Call → Type 0
AllAdvance t [] = Unit {0}
AllAdvance t (c ∷ cs) = Advances t c × AllAdvance (accepted_with t c.turn (length c.before)) cs

-- ---- one buffer, lent to each of them
-- each finds it as the one before left it, and how it is at the end
unfoldable pub Carried : List ℕ → List Call → Type 0
Carried b [] = Unit {0}
Carried b (c ∷ cs) = (c.before ≡ b) × Carried c.after cs

unfoldable pub last_bytes : List ℕ → List Call → List ℕ
last_bytes b [] = b
last_bytes b (c ∷ cs) = last_bytes c.after cs

-- it holds the taps of the low-pass that is designed from t
abbrev pub Shows : Numbers → List ℕ → Type 0
Shows t b = b ≡ written float_bytes (outcome_of (designed_from t)) b

-- ---- the first design
-- where it is accepted, its record is designed from its numbers, and its buffer holds the taps
abbrev pub Begun : Numbers → Tuned → List ℕ → Type 0
Begun t r after = DesignedAs t r.design × Shows t after

abbrev pub Begins : Float → Float → ℕ → Float → ℕ → Tuned → List ℕ → Type 0
Begins cutoff rate window beta n r after = (w : Window) → window_of window beta ≡ Some w → r.report.number ≡ 0 → Begun (record { cutoff = cutoff; rate = rate; window = w; n = n }) r after

-- ---- demand 1 of the record: a refusal leaves it
abbrev pub LeavesRecord : Design → Tuned → Type 0
LeavesRecord d r = (r.report.number ≡ 0 → ⊥) → r.design ≡ d
