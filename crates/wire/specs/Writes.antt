-- What an export tells and leaves: the elements of a design as the bytes of a buffer, or the buffer as it came.
-- Definitions only.
use Rattle.std.specs.Prelude.{ℕ, ◌-◌, ◌*◌, ◌%◌, ◌≡◌, List, cond, eqb, Float}
use Rattle.laws.specs.Chunks.{chunks}
use Rattle.verdict.specs.declared.Refusal.TheVariants.{Length}
use Rattle.verdict.specs.declared.Report.{Report}
use Rattle.verdict.specs.Outcome.{Outcome}
use Rattle.verdict.specs.Reports.{outcome_report}

-- a buffer of len bytes holds whole elements of w bytes, or is refused with the length to the last whole one, in bytes
abbrev pub whole_elements : ℕ → ℕ → Outcome → Outcome
whole_elements w len o = cond (eqb (len % w) 0) o (Outcome.Refused (Length (len - len % w) len))

-- the same of taps, eight bytes each
abbrev pub whole_taps : ℕ → Outcome → Outcome
whole_taps len o = whole_elements 8 len o

-- the buffer afterwards, `bytes` being those of an element: every one, the first one first, or as it came
abbrev pub written : (Float → List ℕ) → Outcome → List ℕ → List ℕ
written bytes (Outcome.Designed n sum tap) d = chunks n (λ i. bytes (tap i))
written bytes (Outcome.Refused why) d = d

-- what the answer and the buffer are afterwards
pub record Writes (bytes : Float → List ℕ) (o : Outcome) (before : List ℕ) (r : Report) (after : List ℕ) : Type 0 where
  pub answer : r ≡ outcome_report o
  pub buffer : after ≡ written bytes o before

-- a buffer of len bytes has room for a design's taps, where it is one
abbrev pub Room : ℕ → Outcome → Type 0
Room len (Outcome.Designed n sum tap) = len ≡ 8 * n
Room len (Outcome.Refused why) = Unit {0}
