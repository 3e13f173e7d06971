-- The refusals' numbers are 1 to 14 and 16 to 19, and what a caller hears of a verdict whose refusal has one of them is
-- what demand 1 says. Definitions only.
use Rattle.std.specs.Prelude.{ℕ, Bool, true, ◌&&◌, ◌||◌, List, [], ◌∷◌, leb, Err, Ok, Result}
use Rattle.verdict.specs.Report.{report_of}
use Rattle.promise_refusals.specs.Demand.{IsRefusal}
use Rattle.verdict.specs.declared.Refusal.{Refusal}

-- ---- the list
unfoldable pub every : (ℕ → Bool) → List ℕ → Bool
every p [] = true
every p (n ∷ ns) = p n && every p ns

abbrev pub is_known : ℕ → Bool
is_known k = (leb 1 k && leb k 14) || (leb 16 k && leb k 19)

-- ---- a verdict
-- the number that its caller hears
abbrev pub heard : Result (Unit {0}) Refusal → ℕ
heard (Ok tt) = 0
heard (Err why) = (report_of why).number

-- a refusal has one of the list
abbrev pub Listed : Result (Unit {0}) Refusal → Type 0
Listed (Ok tt) = Unit {0}
Listed (Err why) = IsRefusal (report_of why).number
