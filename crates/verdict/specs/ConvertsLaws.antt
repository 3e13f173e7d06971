-- What the lengths of a conversion do, and how a loop from the front comes to its answer, over elements of any type.
-- Assumes nothing.
use Rattle.std.specs.Prelude.{◌≡◌, ℕ, ◌+◌, ◌-◌, ◌%◌, ◌<◌, ◌≤◌, Bool, true, false, cond, List, length, drop, set, ◌==◌, ◌≢◌, slice_index_or, slice_set, refl, Float, Err, Ok, Result}
use Rattle.std.proofs.Math.Path.{sym}
use Rattle.std.proofs.Common.{ap, ◌∙◌, arith}
use native.Mathlib.Nat.{mod-one}
use borrow.Author.Tests.{eq-eqb, ne_eqb, eqb-true}
use Rattle.std.specs.Float.Ieee.{nan}
use Rattle.laws.specs.Filled.{filled, fill_none, fill_more, length_filled}
use Rattle.laws.specs.Prefix.{first_bad, bad_start, bad_more, bad_here, bad_end}
use Rattle.verdict.specs.declared.Refusal.{Refusal}
use Rattle.verdict.specs.declared.Refusal.TheVariants.{Length}
use Rattle.verdict.specs.Converts.{taken_of, groups_of, Converts}

-- a refusal isn't done
pub only_done : (b : Bool) (c : Result (Unit {0}) Refusal) (why : Refusal) → cond b c (Err why) ≡ Ok tt → (b ≡ true) × (c ≡ Ok tt)
only_done true c why e = (refl, e)
only_done false c why e = (cc, cc)

-- ---- the lengths: each law has the test that passed before its own
module _ (g n m : ℕ) where
  pub part_group : (n % g ≢ 0) → groups_of g n m ≡ Err (Length (n - n % g) n)
  unfolding groups_of
  part_group a = simp ne_eqb

  pub other_count : n % g ≡ 0 → (n ≢ m) → groups_of g n m ≡ Err (Length n m)
  unfolding groups_of
  other_count a b = simp (eq-eqb, ne_eqb)

  pub same_count : n % g ≡ 0 → n ≡ m → groups_of g n m ≡ Ok tt
  unfolding groups_of
  same_count a b = simp eq-eqb

  -- whole groups are told by nothing else than the lengths
  pub whole_groups : n % g ≡ 0 → groups_of g n m ≡ groups_of 1 n m
  unfolding groups_of
  whole_groups a = rw (a, mod-one n)

  pub right_count : groups_of g n m ≡ Ok tt → n ≡ m
  unfolding groups_of
  right_count e = eqb-true n m (only_done (n == m) (Ok tt) _ (only_done (n % g == 0) _ _ e).1).0

-- ---- the elements
-- the first i are taken
pub record Taken (takes : Float → Bool) (s : List Float) (i : ℕ) : Type 0 where
  pub so_far : first_bad takes s ≡ i + first_bad takes (drop i s)

pub none_yet : (takes : Float → Bool) (s : List Float) → Taken takes s 0
none_yet takes s = record { so_far = bad_start takes s }

-- where the loop ends: the first that isn't taken, and the answer
pub record Ended (takes : Float → Bool) (outside : ℕ → Float → Refusal) (s : List Float) (i : ℕ) (r : Result (Unit {0}) Refusal) : Type 0 where
  pub first : first_bad takes s ≡ i
  pub answer : r ≡ taken_of takes outside s

module _ {takes : Float → Bool} {s : List Float} {i : ℕ} (at : Taken takes s i) where
  pub one_taken : i < length s → takes (slice_index_or s i nan) ≡ true → Taken takes s (i + 1)
  one_taken h t = record { so_far = omega (arith, at.so_far, bad_more takes s i nan h t) }

  pub stopped : {outside : ℕ → Float → Refusal} {why : Refusal} → i < length s → takes (slice_index_or s i nan) ≡ false → outside i (slice_index_or s i nan) ≡ why → Ended takes outside s i (Err why)
  unfolding taken_of
  stopped h t e =
      let here : first_bad takes s ≡ i = omega (arith, at.so_far, bad_here takes s i nan h t) in
      record { first = here; answer = sym (rw (here, ne_eqb i (length s) (λ e. omega arith), e)) }

  pub all_taken : {outside : ℕ → Float → Refusal} → i ≡ length s → Ended takes outside s i (Ok tt)
  unfolding taken_of
  all_taken h =
      let all : first_bad takes s ≡ i = omega (arith, at.so_far, bad_end takes s i (omega arith)) in
      record { first = all; answer = sym (rw (all, eq-eqb i (length s))) }

-- ---- a list: the first i are taken, and what they convert to stands at the front
pub record Reached {A : Type 0} (takes : Float → Bool) (item : Float → A) (s : List Float) (before : List A) (i : ℕ) (after : List A) : Type 0 where
  pub taken : Taken takes s i
  pub front : after ≡ filled i (λ k. item (slice_index_or s k nan)) before

pub at_first : {A : Type 0} (takes : Float → Bool) (item : Float → A) (s : List Float) (before : List A) → Reached takes item s before 0 before
at_first takes item s before = record { taken = none_yet takes s; front = fill_none _ _ }

module _ {A : Type 0} {takes : Float → Bool} {item : Float → A} {s : List Float} {before : List A} where
  -- a length is refused
  pub lengths_refused : {g : ℕ} {outside : ℕ → Float → Refusal} {why : Refusal} → groups_of g (length s) (length before) ≡ Err why → Converts g takes outside item s before (Err why) before
  lengths_refused e = record { answer = rw e; buffer = rw e }

  -- whole groups are converted as their elements are
  pub in_groups : {g : ℕ} {outside : ℕ → Float → Refusal} {r : Result (Unit {0}) Refusal} {after : List A} → length s % g ≡ 0 → Converts 1 takes outside item s before r after → Converts g takes outside item s before r after
  in_groups {g = g} h c = let same = whole_groups g (length s) (length before) h in record { answer = rw same c.answer; buffer = rw same c.buffer }

  module _ {i : ℕ} {after : List A} (at : Reached takes item s before i after) where
    pub same_size : i ≤ length before → length after ≡ length before
    same_size h = ap length at.front ∙ length_filled i _ before h

    pub one_more : {next : List A} → i < length s → i < length before → takes (slice_index_or s i nan) ≡ true → next ≡ slice_set after i (item (slice_index_or s i nan)) → Reached takes item s before (i + 1) next
    one_more h l t e = record {
      taken = one_taken at.taken h t;
      front = e ∙ ap (λ (d : List A). set d i (item (slice_index_or s i nan))) at.front ∙ fill_more i (λ k. item (slice_index_or s k nan)) before l;
    }

    pub ends : {g : ℕ} {outside : ℕ → Float → Refusal} {r : Result (Unit {0}) Refusal} → groups_of g (length s) (length before) ≡ Ok tt → Ended takes outside s i r → Converts g takes outside item s before r after
    ends e d = record { answer = d.answer ∙ sym (rw e); buffer = at.front ∙ sym (rw (e, d.first)) }
