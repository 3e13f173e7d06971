-- The index of the first element that fails a test, or the length where none does; and how a loop from the front finds
-- it.
use Rattle.std.specs.Prelude.{◌≡◌, Bool, drop, get_or}
use Rattle.std.proofs.Math.Path.{refl, ap}
use Rattle.std.proofs.Math.Bool.{true, false}
use mathlib.Core.List.{List, [], ◌∷◌}
use Prim.Native.Nat.{ℕ, zero, suc, ◌+◌, ◌<◌, ◌≤◌, zero-le}
use Rattle.std.proofs.Math.Nat.{suc-le-suc_iff}
use Rattle.std.proofs.Common.{not-suc-le-zero, add-one, arith, drop_of_length-le}
use Rattle.std.proofs.Math.ListN.{length}
use Rattle.std.proofs.Math.Seq.{drop-cons}

abbrev pub one_more : Bool → ℕ → ℕ
one_more true k = suc k
one_more false k = 0

module _ {A : Type 0} (p : A → Bool) where
  unfoldable pub first_bad : List A → ℕ
  first_bad [] = 0
  first_bad (x ∷ l) = one_more (p x) (first_bad l)

  pub bad_start : (l : List A) → first_bad l ≡ 0 + first_bad (drop 0 l)
  bad_start l = omega arith

  pub bad_more : (l : List A) (i : ℕ) (z : A) → i < length l → p (get_or l i z) ≡ true → first_bad (drop i l) ≡ 1 + first_bad (drop (i + 1) l)
  unfolding first_bad
  bad_more l i z h e = rw (add-one, drop-cons l i z, e) (omega arith)

  pub bad_here : (l : List A) (i : ℕ) (z : A) → i < length l → p (get_or l i z) ≡ false → first_bad (drop i l) ≡ 0
  unfolding first_bad
  bad_here l i z h e = rw (drop-cons l i z, e)

  pub bad_end : (l : List A) (i : ℕ) → length l ≤ i → first_bad (drop i l) ≡ 0
  unfolding first_bad
  bad_end l i h = ap first_bad (drop_of_length-le l h)

  pub bad_le : (l : List A) → first_bad l ≤ length l
  unfolding first_bad
  bad_le [] = zero-le
  bad_le (x ∷ l) = go (p x) (suc-le-suc_iff.1 (bad_le l))
    where
      go : (b : Bool) → suc (first_bad l) ≤ suc (length l) → one_more b (first_bad l) ≤ suc (length l)
      go true h = h
      go false h = zero-le

  -- it fails there, and no element before it does
  pub bad_fails : (l : List A) (z : A) → first_bad l < length l → p (get_or l (first_bad l) z) ≡ false
  unfolding first_bad
  bad_fails [] z h = absurd (not-suc-le-zero h)
  bad_fails (x ∷ l) z h = go (p x) refl (bad_fails l z) h
    where
      go : (b : Bool) → p x ≡ b → (first_bad l < length l → p (get_or l (first_bad l) z) ≡ false) → one_more b (first_bad l) < suc (length l) → p (get_or (x ∷ l) (one_more b (first_bad l)) z) ≡ false
      go true e rest h = rest (omega (arith, h))
      go false e rest h = e

  pub good_before : (l : List A) (i : ℕ) (z : A) → i < first_bad l → p (get_or l i z) ≡ true
  unfolding first_bad
  good_before [] i z h = absurd (not-suc-le-zero h)
  good_before (x ∷ l) i z h = go (p x) refl (λ j. good_before l j z) i h
    where
      go : (b : Bool) → p x ≡ b → ((i : ℕ) → i < first_bad l → p (get_or l i z) ≡ true) → (i : ℕ) → i < one_more b (first_bad l) → p (get_or (x ∷ l) i z) ≡ true
      go true e rest zero h = e
      go true e rest (suc i) h = rest i (omega (arith, h))
      go false e rest i h = absurd (not-suc-le-zero h)

-- a test that everything passes
pub bad_none : {A : Type 0} (l : List A) → first_bad (λ x. true) l ≡ length l
unfolding first_bad
bad_none [] = refl
bad_none (x ∷ l) = ap suc (bad_none l)
