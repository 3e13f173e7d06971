-- A loaded Hann, Hamming or Blackman window is the one that is built in: it is accepted, and a low-pass with it is told
-- and written to the bit as one with the built-in's code. Definitions only.
--   "Hann, Hamming and Blackman loaded this way must be accepted."
use Rattle.std.specs.Prelude.{ℕ, ◌%◌, ◌≡◌, List, length, Float}
use Rattle.laws.specs.Binary64.{whole}
use Rattle.verdict.specs.declared.Report.{Report}
use Rattle.wire.specs.Bytes.{float_bytes}
use Rattle.wire.specs.Writes.{Writes}
use Rattle.win_shapes.specs.declared.cosines.Cosines.{Cosines}
use Rattle.win_cosines.specs.Load.{cosines_of, hann_numbers, hamming_numbers, blackman_numbers}
use Rattle.ticket_codes.specs.Codes.{window_of}
use Rattle.c_lowpass.specs.Lowpass.{lowpass_bytes}
use Rattle.c_cosines.specs.Loads.{numbers_in}
use Rattle.c_cosines.specs.declared.load.Loaded.{Loaded}

-- ---- of what `pel_load_cosines` answers for the bytes s
-- where these are the numbers cs, they are accepted, and the window has them
abbrev pub Takes : List Float → List ℕ → Loaded → Type 0
Takes cs s r = length s % 8 ≡ 0 → numbers_in s ≡ cs → (r.report.number ≡ 0) × (r.window ≡ cosines_of cs)

pub record TakesBuiltIns (s : List ℕ) (r : Loaded) : Type 0 where
  pub hann : Takes hann_numbers s r
  pub hamming : Takes hamming_numbers s r
  pub blackman : Takes blackman_numbers s r

-- ---- of what `pel_lowpass_cosines` answers and leaves, with the window c
-- where that has the numbers cs: what `pel_lowpass` answers and leaves with the code
abbrev pub WritesAs : List Float → ℕ → Float → Float → Cosines → List ℕ → Report → List ℕ → Type 0
WritesAs cs code cutoff rate c before r after = c ≡ cosines_of cs → Writes float_bytes (lowpass_bytes cutoff rate (window_of code (whole 0)) (length before)) before r after

pub record WritesBuiltIns (cutoff rate : Float) (c : Cosines) (before : List ℕ) (r : Report) (after : List ℕ) : Type 0 where
  pub hann : WritesAs hann_numbers 0 cutoff rate c before r after
  pub hamming : WritesAs hamming_numbers 1 cutoff rate c before r after
  pub blackman : WritesAs blackman_numbers 2 cutoff rate c before r after
