-- A buffer that is filled with the samples of a window, one a turn, over any type of element and the `code` that makes
-- one of a sample: what the loop keeps, its first and its next turn, and the answer at its end and at a refusal.
-- Assumes nothing.
use Rattle.std.specs.Prelude.{Err, Ok, Result}
use Rattle.std.proofs.Common.{◌≡◌, ℕ, ◌+◌, ◌<◌, ◌≤◌, List, length, set, sym, ap, ◌∙◌, arith}
use lib.Ieee.{Float}
use Rattle.laws.specs.Filled.{filled, fill_none, fill_more, fill_all, length_filled}
use Rattle.verdict.specs.declared.Refusal.{Refusal}
use Rattle.win_sampled.specs.declared.shape.Shape.{Shape}
use Rattle.win_sampled.specs.declared.shape.Symmetry.{Symmetry}
use Rattle.win_sampled.specs.Shapes.{norm_of, divisor_of, sample_at, judgement_of, FillsWindow}

-- element i, for a divisor d
abbrev pub element_at : {A : Type 0} → (Float → A) → Shape → Float → ℕ → ℕ → A
element_at code shape i0 d i = code (sample_at shape i0 d i)

-- the loop's invariant: the first i elements stand at the front of the buffer, the rest is as it came
pub record Filling {A : Type 0} (code : Float → A) (shape : Shape) (i0 : Float) (d : ℕ) (before now : List A) (i : ℕ) : Type 0 where
  pub within : i ≤ length before
  pub stands : now ≡ filled i (element_at code shape i0 d) before

module _ {A : Type 0} {code : Float → A} {shape : Shape} {before : List A} where
  module _ {i0 : Float} {d : ℕ} where
    pub fill_start : Filling code shape i0 d before before 0
    fill_start = record { within = omega arith; stands = fill_none (element_at code shape i0 d) before }

    module _ {now : List A} {i : ℕ} (f : Filling code shape i0 d before now i) where
      pub same_size : length now ≡ length before
      same_size = ap length f.stands ∙ length_filled i (element_at code shape i0 d) before f.within

      pub fill_next : {x : A} → i < length before → x ≡ element_at code shape i0 d i → Filling code shape i0 d before (set now i x) (i + 1)
      fill_next l e = record { within = omega arith; stands = rw (e, f.stands) (fill_more i (element_at code shape i0 d) before l) }

      -- at the end, where the window is judged so; i0 and d are the definition's
      pub fill_done : {symmetry : Symmetry} {r : Result (Unit {0}) Refusal} → r ≡ judgement_of shape symmetry (length before) → r ≡ Ok tt → i0 ≡ norm_of shape → d ≡ divisor_of symmetry (length before) → length before ≤ i → FillsWindow code shape symmetry before (Ok tt) now
      fill_done {r = r} j t n e l =
          let passes : judgement_of shape _ (length before) ≡ (Ok tt) = sym j ∙ t in
          let end : i ≡ length before = omega arith in
          record { answer = sym passes; buffer = f.stands ∙ fill_all i (element_at code shape i0 d) before l ∙ sym (rw (passes, ← n, ← e, ← end)) }

  -- at a refusal
  pub fill_refused : {symmetry : Symmetry} {why : Refusal} {r : Result (Unit {0}) Refusal} → r ≡ judgement_of shape symmetry (length before) → r ≡ Err why → FillsWindow code shape symmetry before (Err why) before
  fill_refused j t = let refuses = sym j ∙ t in record { answer = sym refuses; buffer = rw refuses }
