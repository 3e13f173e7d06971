-- A design of any kind, by how many taps it has, what they are divided by last, and each of them. Definitions only.
use Rattle.std.specs.Prelude.{◌≡◌, ℕ, ◌==◌, cond, List, Float, Err, Ok, Result}
use Rattle.verdict.specs.Outcome.{Outcome}
use Rattle.verdict.specs.declared.Refusal.{Refusal}
use Rattle.verdict.specs.declared.Refusal.TheVariants.{Length}

module _ {D : Type 0} (count : D → ℕ) where
  -- for a buffer of len elements, tested last
  abbrev pub fitted_of : Result D Refusal → ℕ → Result D Refusal
  fitted_of (Ok d) len = cond (count d == len) (Ok d) (Err (Length (count d) len))
  fitted_of (Err why) len = Err why

  -- what comes of a ticket
  abbrev pub outcome_of : (D → Float) → (D → ℕ → Float) → Result D Refusal → Outcome
  outcome_of divisor tap (Ok d) = Outcome.Designed (count d) (divisor d) (tap d)
  outcome_of divisor tap (Err why) = Outcome.Refused why

-- an answer that is the design d, and, where there is one, a list that keeps what its taps are worked out from
pub record Prepares {D : Type 0} (keeps : D → List Float → Type 0) (d r : Result D Refusal) (rs : List Float) : Type 0 where
  pub is : r ≡ d
  pub raws : (x : D) → r ≡ Ok x → keeps x rs
