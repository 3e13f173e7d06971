-- A window of cosines loaded from a list of bytes, and what is answered. Definitions only.
use Rattle.std.specs.Prelude.{ℕ, ◌-◌, ◌/◌, ◌%◌, cond, List, eqb, length, Float, Err, Ok, Result}
use Rattle.laws.specs.Binary64.{whole}
use Rattle.verdict.specs.Report.{report_of, accepted_of}
use Rattle.verdict.specs.declared.Refusal.TheVariants.{Length}
use Rattle.wire.specs.Bytes.{floats_in}
use Rattle.win_shapes.specs.declared.cosines.Cosines.{Cosines}
use Rattle.win_cosines.specs.Load.{load_of}
use Rattle.c_cosines.specs.declared.load.Loaded.{Loaded}
use Rattle.verdict.specs.declared.Refusal.{Refusal}

-- the f64s of a source of bytes
abbrev pub numbers_in : List ℕ → List Float
numbers_in s = floats_in (length s / 8) s

-- what comes of them: whole numbers, or 8 in bytes
unfoldable pub load_bytes : List ℕ → Result Cosines Refusal
load_bytes s = let m = length s in cond (eqb (m % 8) 0) (load_of (numbers_in s)) (Err (Length (m - m % 8) m))

-- the window in place of one that was refused: five zeros
abbrev pub zeros : Cosines
zeros = record { c0 = whole 0; c1 = whole 0; c2 = whole 0; c3 = whole 0; c4 = whole 0 }

-- what is answered where n numbers were given
abbrev pub answer_of : ℕ → Result Cosines Refusal → Loaded
answer_of n (Ok c) = record { window = c; report = accepted_of n (whole 0) }
answer_of n (Err why) = record { window = zeros; report = report_of why }
