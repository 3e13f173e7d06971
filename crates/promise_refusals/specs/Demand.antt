-- Demand 1 in its own words, of one call of an export: the number that its caller hears, and what its buffer holds
-- afterwards. Definitions only.
--   "A ticket is filled completely or refused by number with its buffer as it came. A conversion that meets an element
--   it can't take names its index, keeps those before it, leaves the rest."
use Rattle.std.specs.Prelude.{ℕ, ◌*◌, ◌/◌, ◌<◌, ◌≡◌, Bool, true, false, ◌||◌, List, [], ◌∷◌, ◌⊎◌, T, eqb, length, take, drop, Float, Ok, Result}
use Rattle.laws.specs.Chunks.{chunks}
use Rattle.verdict.specs.Numbers.{refusals, bad_element}
use Rattle.verdict.specs.Outcome.{Outcome, answered}
use Rattle.verdict.specs.Converts.{taken_of, then_of}
use Rattle.verdict.specs.declared.Report.{Report}
use Rattle.wire.specs.Bytes.{float_at}
use Rattle.win_cosines.specs.Load.{cosines_of}
use Rattle.c_cosines.specs.Loads.{numbers_in, load_bytes, zeros}
use Rattle.c_cosines.specs.declared.load.Loaded.{Loaded}
use Rattle.c_formats.specs.Format.{Format}
use Rattle.c_formats.specs.Formats.{width_of, takes_of, outside_of, bytes_in}
use Rattle.c_formats.specs.Conversions.{floats, lengths_of}
use Rattle.promise_refusals.specs.Verdicts.{of_loading}
use Rattle.verdict.specs.declared.Refusal.{Refusal}

-- ---- the number
-- one of a list
unfoldable pub listed : ℕ → List ℕ → Bool
listed k [] = false
listed k (n ∷ ns) = eqb k n || listed k ns

abbrev pub IsRefusal : ℕ → Type 0
IsRefusal k = T (listed k refusals)

-- the number k of a ticket of which the definition says v: "0 or one of the refusals", and 0 exactly where the
-- definition designs
pub record Numbered (v : Result (Unit {0}) Refusal) (k : ℕ) : Type 0 where
  pub number : (k ≡ 0) ⊎ IsRefusal k
  pub accepted : v ≡ Ok tt → k ≡ 0
  pub only : k ≡ 0 → v ≡ Ok tt

-- ---- a buffer of elements, `bytes` being those of one
-- "filled completely": the elements of the design, one after the other, and nothing else
abbrev pub Filled : (Float → List ℕ) → Outcome → List ℕ → Type 0
Filled bytes (Outcome.Designed n divisor tap) after = after ≡ chunks n (λ i. bytes (tap i))
Filled bytes (Outcome.Refused why) after = ⊥

-- of a ticket that comes to o: its report r, and the buffer before and after
pub record FilledOrKept (bytes : Float → List ℕ) (o : Outcome) (before : List ℕ) (r : Report) (after : List ℕ) : Type 0 where
  pub told : Numbered (answered o) r.number
  pub filled : r.number ≡ 0 → Filled bytes o after
  pub kept : (r.number ≡ 0 → ⊥) → after ≡ before
  -- it is the same buffer, so that what fills it leaves no byte
  pub size : length after ≡ length before

-- ---- a window of cosines loaded from the bytes s
-- "filled completely", its numbers and 0 for those not given, or refused with five zeros
pub record LoadedOrNone (s : List ℕ) (r : Loaded) : Type 0 where
  pub told : Numbered (of_loading (load_bytes s)) r.report.number
  pub loaded : r.report.number ≡ 0 → r.window ≡ cosines_of (numbers_in s)
  pub none : (r.report.number ≡ 0 → ⊥) → r.window ≡ zeros

-- ---- a conversion of the f64s in the bytes s to the format f, of which g belong together
-- element i of the source
abbrev pub element_at : List ℕ → ℕ → Float
element_at s i = float_at s (8 * i)

-- "names its index, keeps those before it, leaves the rest": what stands at an 11
pub record StopsAt (f : Format) (s before : List ℕ) (index : ℕ) (after : List ℕ) : Type 0 where
  -- the index is the first element's that isn't taken
  pub within : index < length s / 8
  pub not_taken : takes_of f (element_at s index) ≡ false
  pub first : (i : ℕ) → i < index → takes_of f (element_at s i) ≡ true
  -- the bytes before it are the converted elements, those from there on are as they came
  pub front : take (width_of f * index) after ≡ chunks index (λ i. bytes_in f (element_at s i))
  pub rest : drop (width_of f * index) after ≡ drop (width_of f * index) before

pub record ConvertedOrKept (f : Format) (g : ℕ) (s before : List ℕ) (r : Report) (after : List ℕ) : Type 0 where
  pub told : Numbered (then_of (lengths_of (width_of f) g (length s) (length before)) (taken_of (takes_of f) (outside_of f) (floats s))) r.number
  pub filled : r.number ≡ 0 → after ≡ chunks (length s / 8) (λ i. bytes_in f (element_at s i))
  pub kept : (r.number ≡ 0 → ⊥) → (r.number ≡ bad_element → ⊥) → after ≡ before
  pub stopped : r.number ≡ bad_element → StopsAt f s before r.index after
  pub size : length after ≡ length before
