-- Lists of turns, as their user sees them: the numbers that were accepted last, folded over numbers alone, and what a
-- low-pass comes to that is turned so. Definitions only.
use Rattle.std.specs.Prelude.{ℕ, List, [], ◌∷◌, Float, Err, Ok, Result}
use Rattle.fir_sinc.specs.declared.window.Window.{Window}
use Rattle.fir_sinc.specs.declared.window.Window.TheVariants.{Kaiser}
use Rattle.fir_lowpass.specs.Lowpass.{lowpass_of}
use Rattle.fir_lowpass.specs.declared.lowpass.Lowpass.{Lowpass}
use Rattle.fir_retune.specs.Retune.{new_cutoff_of, new_beta_of, where_kaiser, kept_of, verdict_of}
use Rattle.verdict.specs.declared.Refusal.{Refusal}

-- ---- numbers
-- what a low-pass is designed from
pub record Numbers : Type 0 where
  pub cutoff : Float
  pub rate : Float
  pub window : Window
  pub n : ℕ

abbrev pub designed_from : Numbers → Result Lowpass Refusal
designed_from t = lowpass_of t.cutoff t.rate t.window t.n

-- a turn of the knob
pub data Operation : Type 0 where
  NewCutoff : Float → Float → Operation
  NewBeta : Float → Operation

-- the numbers with an operation's in their place: a cutoff and its rate, or a beta
abbrev pub placed : Numbers → Operation → Numbers
placed t (NewCutoff cutoff rate) = record { cutoff = cutoff; rate = rate; window = t.window; n = t.n }
placed t (NewBeta beta) = record { cutoff = t.cutoff; rate = t.rate; window = Kaiser beta; n = t.n }

-- what comes of them
abbrev pub comes_of : Numbers → Operation → Result Lowpass Refusal
comes_of t (NewCutoff cutoff rate) = designed_from (placed t (NewCutoff cutoff rate))
comes_of t (NewBeta beta) = where_kaiser t.window (designed_from (placed t (NewBeta beta)))

-- the last accepted numbers, after an operation that came to d and after a list of them
abbrev pub accepted_in : Numbers → Operation → Result Lowpass Refusal → Numbers
accepted_in t o (Ok l) = placed t o
accepted_in t o (Err why) = t

unfoldable pub last_accepted : Numbers → List Operation → Numbers
last_accepted t [] = t
last_accepted t (o ∷ os) = last_accepted (accepted_in t o (comes_of t o)) os

-- and the verdict on each
unfoldable pub verdicts_from : Numbers → List Operation → List (Result (Unit {0}) Refusal)
verdicts_from t [] = []
verdicts_from t (o ∷ os) = verdict_of (comes_of t o) ∷ verdicts_from (accepted_in t o (comes_of t o)) os

-- ---- a record, turned by one after another
abbrev pub turned_of : Lowpass → Operation → Result Lowpass Refusal
turned_of l (NewCutoff cutoff rate) = new_cutoff_of l cutoff rate
turned_of l (NewBeta beta) = new_beta_of l beta

unfoldable pub retune : Lowpass → List Operation → Lowpass
retune l [] = l
retune l (o ∷ os) = retune (kept_of l (turned_of l o)) os

unfoldable pub verdicts_of : Lowpass → List Operation → List (Result (Unit {0}) Refusal)
verdicts_of l [] = []
verdicts_of l (o ∷ os) = verdict_of (turned_of l o) ∷ verdicts_of (kept_of l (turned_of l o)) os
