-- What a conversion answers and leaves: from the tests of its lengths, element by element, and all in all. Assumes
-- nothing.
use Rattle.std.specs.Prelude.{◌≡◌, List, ℕ, ◌+◌, ◌-◌, ◌*◌, ◌/◌, ◌%◌, ◌<◌, eqb, length, get_or, Err, Ok, Result}
use Rattle.std.proofs.Math.Path.{sym, ap}
use Rattle.std.proofs.Common.{◌∙◌, mul-le-mul_left, arith}
use Rattle.std.proofs.Math.Nat.{div-add-mod}
use borrow.Author.Tests.{eq-eqb, ne_eqb, eqb-true}
use Rattle.std.specs.Float.{nan}
use Rattle.laws.specs.Filled.{length_tabulate, get_d_tabulate}
use Rattle.wire.specs.Bytes.{float_at, put_of}
use Rattle.wire.specs.WrittenPrefix.{WrittenPrefix}
use Rattle.wire.specs.WrittenPrefix as Prefix
use Rattle.verdict.specs.declared.Refusal.{Refusal}
use Rattle.verdict.specs.declared.Refusal.TheVariants.{Length}
use Rattle.verdict.specs.declared.Report.{Report}
use Rattle.c_formats.specs.Format.{Format}
use Rattle.verdict.specs.Reports.{done_report}
use Rattle.verdict.specs.Converts.{taken_of, groups_of, then_of, left_of}
use Rattle.verdict.specs.ConvertsLaws.{only_done, right_count, Taken, none_yet, Ended, one_taken, stopped, all_taken}
use Rattle.c_formats.specs.Formats.{width_of, takes_of, pattern_of, outside_of, encoded_of}
use Rattle.c_formats.specs.FormatLaws.{pattern_tells, refusal_tells}
use Rattle.c_formats.specs.Conversions.{floats, lengths_of, stored_of, ConvertsWhole, ConvertsBytes}

-- ---- the lengths, from m bytes to len bytes in elements of w bytes, g a group
-- each law has the tests that passed before its own
module _ (w g m len : ℕ) where
  pub part_source : (m % 8 ≡ 0 → ⊥) → lengths_of w g m len ≡ Err (Length (m - m % 8) m)
  unfolding lengths_of
  part_source a = simp ne_eqb

  pub part_destination : m % 8 ≡ 0 → (len % w ≡ 0 → ⊥) → lengths_of w g m len ≡ Err (Length (len - len % w) len)
  unfolding lengths_of
  part_destination a b = simp (eq-eqb, ne_eqb)

  pub whole_elements : m % 8 ≡ 0 → len % w ≡ 0 → lengths_of w g m len ≡ groups_of g (m / 8) (len / w)
  unfolding lengths_of
  whole_elements a b = simp eq-eqb

  -- where they are right the source is whole f64s, and the destination has room for as many elements
  pub right_lengths : lengths_of w g m len ≡ Ok tt → (m % 8 ≡ 0) × (len ≡ w * (m / 8))
  unfolding lengths_of
  right_lengths e =
      let a = only_done (eqb (m % 8) 0) _ _ e in
      let b = only_done (eqb (len % w) 0) _ _ a.1 in
      (eqb-true (m % 8) 0 a.0, room (eqb-true (len % w) 0 b.0) (right_count g (m / 8) (len / w) b.1))
    where
      room : len % w ≡ 0 → m / 8 ≡ len / w → len ≡ w * (m / 8)
      room b d = omega (arith, div-add-mod len w, ap (λ (k : ℕ). w * k) d)

-- ---- the elements
-- element k's pattern
abbrev pattern : Format → List ℕ → ℕ → ℕ
pattern f s k = pattern_of f (get_or (floats s) k nan)

-- how many there are
pub count : (s : List ℕ) → length (floats s) ≡ length s / 8
count s = length_tabulate (length s / 8) (λ k. float_at s (8 * k))

-- i elements were taken, and their bytes stand at the front
pub record Reached (f : Format) (s before : List ℕ) (i : ℕ) (after : List ℕ) : Type 0 where
  pub taken : Taken (takes_of f) (floats s) i
  pub prefix : WrittenPrefix (width_of f) (Unit {0}) (pattern f s) before i after

pub at_first : (f : Format) (s before : List ℕ) → Reached f s before 0 before
at_first f s before = record { taken = none_yet (takes_of f) (floats s); prefix = Prefix.at_first (width_of f) (Unit {0}) (pattern f s) before }

module _ {f : Format} {s before : List ℕ} {i : ℕ} {after : List ℕ} (at : Reached f s before i after) where
  ended : {r : Result (Unit {0}) Refusal} → Ended (takes_of f) (outside_of f) (floats s) i r → ConvertsWhole f s before r after
  unfolding stored_of
  ended d = record { answer = d.answer; buffer = at.prefix.stands tt ∙ sym (rw d.first) }

  -- all were taken
  pub at_end : i ≡ length s / 8 → ConvertsWhole f s before (Ok tt) after
  at_end h = ended (all_taken at.taken (h ∙ sym (count s)))

  module _ (room : length before ≡ width_of f * (length s / 8)) where
    -- element i, as it is read
    module _ (h : i < length s / 8) where
      element : float_at s (8 * i) ≡ get_or (floats s) i nan
      element = sym (get_d_tabulate (length s / 8) (λ k. float_at s (8 * k)) i nan h)

      pub one_more : {p : ℕ} {next : List ℕ} → encoded_of f i (float_at s (8 * i)) ≡ Ok p → next ≡ put_of (width_of f) after (width_of f * i) p → Reached f s before (i + 1) next
      one_more {p} e stored =
          let t = pattern_tells f i (get_or (floats s) i nan) p (ap (encoded_of f i) (sym element) ∙ e) in
          record {
            taken = one_taken at.taken (omega (arith, count s)) t.0;
            prefix = Prefix.one_more at.prefix (omega (arith, room, mul-le-mul_left (width_of f) h)) (λ u. sym t.1) stored;
          }

      pub one_refused : {why : Refusal} → encoded_of f i (float_at s (8 * i)) ≡ Err why → ConvertsWhole f s before (Err why) after
      one_refused {why} e =
          let t = refusal_tells f i (get_or (floats s) i nan) why (ap (encoded_of f i) (sym element) ∙ e) in
          ended (stopped at.taken (omega (arith, count s)) t.0 t.1)

-- ---- all of it, by what came of the lengths
module _ {f : Format} {g : ℕ} {s before : List ℕ} {r : Report} {after : List ℕ} where
  pub converts : {c : Result (Unit {0}) Refusal} → lengths_of (width_of f) g (length s) (length before) ≡ c → r ≡ done_report (length s / 8) (then_of c (taken_of (takes_of f) (outside_of f) (floats s))) → after ≡ left_of c (stored_of f (floats s) before) before → ConvertsBytes f g s before r after
  converts e told left = record { answer = told ∙ sym (rw e); buffer = left ∙ sym (rw e) }
