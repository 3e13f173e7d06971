-- What a designer gives, of whichever kind: so many taps and the sum that they were divided by last, or a refusal; and
-- the buffer that it fills. Definitions only.
use Rattle.std.specs.Prelude.{◌≡◌, ℕ, ◌<◌, List, length, Float, Err, Ok, Result}
use Rattle.laws.specs.Filled.{tabulate}
use Rattle.verdict.specs.declared.Judged.{Judged}
use Rattle.verdict.specs.declared.Refusal.{Refusal}

-- "a ticket is accepted" where the outcome is `Designed`: the number of taps, "the last divisor", and tap i
pub data Outcome : Type 0 where
  Designed : ℕ → Float → (ℕ → Float) → Outcome
  Refused : Refusal → Outcome

-- a design for numbers that pass, else their refusal
abbrev pub where_passed : Result (Unit {0}) Refusal → Outcome → Outcome
where_passed (Ok tt) o = o
where_passed (Err why) o = Refused why

-- what a judgement without a buffer tells of it
abbrev pub judged_of : Outcome → Result Judged Refusal
judged_of (Designed n sum tap) = Ok (record { taps = n; divisor = sum })
judged_of (Refused why) = Err why

-- ---- a buffer: filled, or as it came
abbrev pub answered : Outcome → Result (Unit {0}) Refusal
answered (Designed n sum tap) = Ok tt
answered (Refused why) = Err why

abbrev pub stored : Outcome → List Float → List Float
stored (Designed n sum tap) d = tabulate (length d) tap
stored (Refused why) d = d

-- what the answer and the buffer are afterwards
pub record Fills (o : Outcome) (before : List Float) (r : Result (Unit {0}) Refusal) (after : List Float) : Type 0 where
  pub answer : r ≡ answered o
  pub buffer : after ≡ stored o before

-- ---- two outcomes that nobody can tell apart: the same refusal, or as many taps, the same divisor, and the same taps
abbrev pub Agrees : Outcome → Outcome → Type 0
Agrees (Designed n s t) (Designed m u v) = (n ≡ m) × (s ≡ u) × ((k : ℕ) → k < n → t k ≡ v k)
Agrees (Designed n s t) (Refused why) = ⊥
Agrees (Refused why) (Designed m u v) = ⊥
Agrees (Refused why) (Refused other) = why ≡ other
