-- Floats converted to elements of any type, one by one: what is answered, and what the destination holds afterwards.
-- Definitions only.
use Rattle.std.specs.Prelude.{◌≡◌, ℕ, ◌-◌, ◌%◌, Bool, cond, List, length, ◌==◌, slice_index_or, Float, Err, Ok, Result}
use Rattle.std.specs.Float.{nan}
use Rattle.laws.specs.Filled.{filled}
use Rattle.laws.specs.Prefix.{first_bad}
use Rattle.verdict.specs.declared.Refusal.{Refusal}
use Rattle.verdict.specs.declared.Refusal.TheVariants.{Length}

-- all are taken, or the first that isn't is named: `outside k x` is what is told of x at index k
unfoldable pub taken_of : (Float → Bool) → (ℕ → Float → Refusal) → List Float → Result (Unit {0}) Refusal
taken_of takes outside s =
    let k = first_bad takes s in
    cond (k == length s) (Ok tt) (Err (outside k (slice_index_or s k nan)))

-- n elements into m, of which g belong together (1 where none do): a source that isn't whole groups is refused first,
-- with the length to the last whole one and the length; then two lengths that differ
unfoldable pub groups_of : ℕ → ℕ → ℕ → Result (Unit {0}) Refusal
groups_of g n m =
    cond (n % g == 0)
    (cond (n == m)
    (Ok tt)
    (Err (Length n m)))
    (Err (Length (n - n % g) n))

-- what comes after the lengths, and what is left in the destination
abbrev pub then_of : Result (Unit {0}) Refusal → Result (Unit {0}) Refusal → Result (Unit {0}) Refusal
then_of (Ok tt) c = c
then_of (Err why) c = Err why

abbrev pub left_of : {A : Type 0} → Result (Unit {0}) Refusal → List A → List A → List A
left_of (Ok tt) after before = after
left_of (Err why) after before = before

-- the elements up to the first that isn't taken are converted, the rest is as it came; all is where a length is refused
pub record Converts {A : Type 0} (g : ℕ) (takes : Float → Bool) (outside : ℕ → Float → Refusal) (item : Float → A) (s : List Float) (before : List A) (r : Result (Unit {0}) Refusal) (after : List A) : Type 0 where
  pub answer : r ≡ then_of (groups_of g (length s) (length before)) (taken_of takes outside s)
  pub buffer : after ≡ left_of (groups_of g (length s) (length before)) (filled (first_bad takes s) (λ i. item (slice_index_or s i nan)) before) before
