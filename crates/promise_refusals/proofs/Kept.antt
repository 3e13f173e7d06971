-- Demand 1 from what an export ensures: of a design that writes its elements, and of a conversion. Assumes nothing.
use Rattle.std.specs.Prelude.{ℕ, suc, ◌*◌, ◌/◌, ◌%◌, ◌<◌, ◌≤◌, ◌≡◌, Bool, List, [], ◌∷◌, ◌⊎◌, T, length, take, drop, get_or, Float, Err, Ok, Result}
use Rattle.std.proofs.Math.Path.{refl, ap}
use Rattle.std.proofs.Common.{sym, ◌∙◌, subst, le_of_eq, arith, take_at, drop_at}
use Rattle.std.proofs.Math.Bool.{true, false, cond}
use Rattle.std.proofs.Math.Logic.{inl, inr}
use borrow.Author.Tests.{eqb-true, eqb-false}
use Rattle.std.proofs.Math.Dec.{eqb}
use Rattle.std.specs.Float.{nan}
use Rattle.laws.specs.Cases.{either, either_way}
use Rattle.laws.specs.Chunks.{chunks, chunked, chunks_below, length_chunks, chunk_all}
use Rattle.laws.specs.Filled.{get_d_tabulate}
use Rattle.laws.specs.Prefix.{one_more, first_bad, bad_le, bad_fails, good_before}
use Rattle.laws.specs.SumError.{Each}
use Rattle.verdict.specs.Numbers.{bad_length, bad_element}
use Rattle.verdict.specs.Report.{report_of, accepted_of}
use Rattle.verdict.specs.Reports.{outcome_report, done_report}
use Rattle.verdict.specs.Outcome.{Outcome, answered}
use Rattle.verdict.specs.Converts.{taken_of, groups_of, then_of, left_of}
use Rattle.verdict.specs.declared.Report.{Report}
use Rattle.wire.specs.Bytes.{float_at}
use Rattle.wire.specs.Laws.{length_bytes}
use Rattle.wire.specs.Writes.{written, Writes}
use Rattle.win_cosines.specs.Load.{cosines_of}
use Rattle.c_cosines.specs.Loads.{numbers_in, load_bytes, zeros, answer_of}
use Rattle.c_cosines.specs.LoadsLaws.{bytes_these}
use Rattle.c_cosines.specs.declared.load.Loaded.{Loaded}
use Rattle.c_formats.specs.Format.{Format}
use Rattle.c_formats.specs.Formats.{width_of, takes_of, pattern_of, outside_of, bytes_in}
use Rattle.c_formats.specs.Conversions.{floats, lengths_of, stored_of, ConvertsBytes}
use Rattle.c_formats.specs.ConversionLaws.{right_lengths, count}
use Rattle.promise_refusals.specs.Demand.{Filled, FilledOrKept, LoadedOrNone, element_at, StopsAt, ConvertedOrKept}
use Rattle.promise_refusals.specs.Verdicts.{of_loading}
use Rattle.promise_refusals.specs.Listed.{Listed}
use Rattle.promise_refusals.proofs.ListedLaws.{never_zero, numbered, outcome_heard, done_heard, loading_heard}
use Rattle.promise_refusals.specs.Exports.{load_bytes_lem}
use Rattle.promise_refusals.specs.Judgements.{lengths_listed, taken_listed, then_listed}
use Rattle.verdict.specs.declared.Refusal.{Refusal}
use Rattle.win_shapes.specs.declared.cosines.Cosines.{Cosines}

-- ---- a design
module _ (bytes : Float → List ℕ) (before : List ℕ) where
  where_zero : (o : Outcome) → Listed (answered o) → (outcome_report o).number ≡ 0 → Filled bytes o (written bytes o before)
  where_zero (Outcome.Designed n divisor tap) l e = refl
  where_zero (Outcome.Refused why) l e = absurd (never_zero (report_of why).number l e)

  where_not : (o : Outcome) → ((outcome_report o).number ≡ 0 → ⊥) → written bytes o before ≡ before
  unfolding accepted_of
  where_not (Outcome.Designed n divisor tap) h = absurd (h refl)
  where_not (Outcome.Refused why) h = refl

pub filled_or_kept : {bytes : Float → List ℕ} {o : Outcome} {before after : List ℕ} {r : Report} → Listed (answered o) → Writes bytes o before r after → length after ≡ length before → FilledOrKept bytes o before r after
filled_or_kept {bytes} {o} {before} {after} {r} l w size =
    let told : r.number ≡ (outcome_report o).number = ap (λ (z : Report). z.number) w.answer in
    record {
      told = numbered (answered o) (told ∙ outcome_heard o) l;
      filled = λ e. subst (Filled bytes o) (sym w.buffer) (where_zero bytes before o l (sym told ∙ e));
      kept = λ h. w.buffer ∙ where_not bytes before o (λ e. h (told ∙ e));
      size = size;
    }

-- ---- a window of cosines that is loaded
pub loaded_or_none : (s : List ℕ) {r : Loaded} → r ≡ answer_of (length s / 8) (load_bytes s) → LoadedOrNone s r
unfolding accepted_of
loaded_or_none s {r} e = subst (LoadedOrNone s) (sym e) (record {
  told = numbered (of_loading (load_bytes s)) (loading_heard (length s / 8) (load_bytes s)) (load_bytes_lem s);
  loaded = these (load_bytes s) refl;
  none = zeroed (load_bytes s) (load_bytes_lem s);
})
  where
    these : (l : Result Cosines Refusal) → load_bytes s ≡ l → (answer_of (length s / 8) l).report.number ≡ 0 → (answer_of (length s / 8) l).window ≡ cosines_of (numbers_in s)
    these (Ok c) g z = bytes_these s c g
    these (Err why) g z = absurd (never_zero (report_of why).number (subst (λ (l : Result Cosines Refusal). Listed (of_loading l)) g (load_bytes_lem s)) z)

    zeroed : (l : Result Cosines Refusal) → Listed (of_loading l) → ((answer_of (length s / 8) l).report.number ≡ 0 → ⊥) → (answer_of (length s / 8) l).window ≡ zeros
    zeroed (Ok c) x h = absurd (h refl)
    zeroed (Err why) x h = refl

-- ---- a conversion: it ends in one of three ways
-- what an accepted one tells: each f64 of its source is taken, and its bytes are those of every element, the first one
-- first
pub record Converted (f : Format) (s after : List ℕ) : Type 0 where
  pub taken : Each (takes_of f) (floats s)
  pub bytes : after ≡ chunks (length s / 8) (λ i. bytes_in f (element_at s i))

-- where no element is the first that isn't taken, each one is
all_taken : (p : Float → Bool) (l : List Float) → first_bad p l ≡ length l → Each p l
unfolding first_bad
all_taken p [] e = tt
all_taken p (x ∷ l) e = go (p x) refl e (all_taken p l)
  where
    go : (b : Bool) → p x ≡ b → one_more b (first_bad p l) ≡ suc (length l) → (first_bad p l ≡ length l → Each p l) → T (p x) × Each p l
    go true h e rest = (subst T (sym h) tt, rest (omega (arith, e)))
    go false h e rest = absurd (omega (arith, e))

-- a refusal of its lengths has their number
abbrev ByLength : Result (Unit {0}) Refusal → Type 0
ByLength (Ok tt) = Unit {0}
ByLength (Err why) = (report_of why).number ≡ bad_length

lengths_by_length : (w g m len : ℕ) → ByLength (lengths_of w g m len)
unfolding lengths_of groups_of report_of
lengths_by_length w g m len =
    let way = either_way ByLength in
    way (eqb (m % 8) 0) _ _ (way (eqb (len % w) 0) _ _ (way (eqb (m / 8 % g) 0) _ _ (way (eqb (m / 8) (len / w)) _ _ tt refl) refl) refl) refl

-- a refusal of an element has its number, and the index
outside_number : (f : Format) (i : ℕ) (x : Float) → ((report_of (outside_of f i x)).number ≡ bad_element) × ((report_of (outside_of f i x)).index ≡ i)
unfolding outside_of report_of
outside_number Format.Q15 i x = (refl, refl)
outside_number Format.Q14 i x = (refl, refl)
outside_number Format.Single i x = (refl, refl)

module _ {f : Format} {g : ℕ} {s before : List ℕ} {r : Report} {after : List ℕ} (c : ConvertsBytes f g s before r after) where
  abbrev lengths : Result (Unit {0}) Refusal
  lengths = lengths_of (width_of f) g (length s) (length before)

  abbrev elements : Result (Unit {0}) Refusal
  elements = taken_of (takes_of f) (outside_of f) (floats s)

  abbrev bad : ℕ
  bad = first_bad (takes_of f) (floats s)

  record Unfit : Type 0 where
    number : r.number ≡ bad_length
    left : after ≡ before

  record Whole : Type 0 where
    number : r.number ≡ 0
    fit : lengths ≡ Ok tt
    all : bad ≡ length s / 8

  record Part : Type 0 where
    number : r.number ≡ bad_element
    index : r.index ≡ bad
    fit : lengths ≡ Ok tt
    some : bad < length s / 8

  abbrev told : Result (Unit {0}) Refusal → Report
  told v = done_report (length s / 8) v

  -- the report, by what the lengths and the elements came to
  answer_is : (v w : Result (Unit {0}) Refusal) → lengths ≡ v → elements ≡ w → r ≡ told (then_of v w)
  answer_is v w e d = c.answer ∙ ap (λ (z : Result (Unit {0}) Refusal). told (then_of z elements)) e ∙ ap (λ (z : Result (Unit {0}) Refusal). told (then_of v z)) d

  ends : Unfit ⊎ (Whole ⊎ Part)
  unfolding taken_of accepted_of
  ends = by_lengths lengths refl (lengths_by_length (width_of f) g (length s) (length before))
    where
      by_elements : (b : Bool) → eqb bad (length (floats s)) ≡ b → lengths ≡ Ok tt → Whole ⊎ Part
      by_elements true e fit =
          let done : elements ≡ (Ok tt) = ap (λ (b : Bool). cond b (Ok tt) (Err (outside_of f bad (get_or (floats s) bad nan)))) e in
          inl (record { number = ap (λ (z : Report). z.number) (answer_is (Ok tt) (Ok tt) fit done); fit = fit; all = eqb-true bad (length (floats s)) e ∙ count s })
      by_elements false e fit =
          let why = outside_of f bad (get_or (floats s) bad nan) in
          let refused : elements ≡ Err why = ap (λ (b : Bool). cond b (Ok tt) (Err why)) e in
          let told = answer_is (Ok tt) (Err why) fit refused in
          let n = outside_number f bad (get_or (floats s) bad nan) in
          inr (record {
            number = ap (λ (z : Report). z.number) told ∙ n.0;
            index = ap (λ (z : Report). z.index) told ∙ n.1;
            fit = fit;
            some = omega (arith, bad_le (takes_of f) (floats s), count s, eqb-false bad (length (floats s)) e);
          })

      by_lengths : (v : Result (Unit {0}) Refusal) → lengths ≡ v → ByLength v → Unfit ⊎ (Whole ⊎ Part)
      by_lengths (Ok tt) e n = inr (by_elements (eqb bad (length (floats s))) refl e)
      by_lengths (Err why) e n = inl (record { number = ap (λ (z : Report). z.number) (answer_is (Err why) elements e refl) ∙ n; left = c.buffer ∙ ap (λ (v : Result (Unit {0}) Refusal). left_of v (stored_of f (floats s) before) before) e })

  -- ---- what is left where the lengths fit
  abbrev chunk : ℕ → List ℕ
  chunk i = bytes_in f (get_or (floats s) i nan)

  width : (i : ℕ) → length (chunk i) ≡ width_of f
  width i = length_bytes (width_of f) (pattern_of f (get_or (floats s) i nan))

  front_is : lengths ≡ Ok tt → after ≡ chunked (width_of f) bad chunk before
  unfolding stored_of
  front_is fit = c.buffer ∙ ap (λ (v : Result (Unit {0}) Refusal). left_of v (stored_of f (floats s) before) before) fit

  element_is : (i : ℕ) → i < length s / 8 → get_or (floats s) i nan ≡ element_at s i
  element_is i h = get_d_tabulate (length s / 8) (λ k. float_at s (8 * k)) i nan h

  chunks_are : (n : ℕ) → n ≤ length s / 8 → chunks n chunk ≡ chunks n (λ i. bytes_in f (element_at s i))
  chunks_are n h = chunks_below n chunk (λ i. bytes_in f (element_at s i)) (λ i l. ap (bytes_in f) (element_is i (omega arith)))

  -- ---- demand 1
  all_converted : Whole → after ≡ chunks (length s / 8) (λ i. bytes_in f (element_at s i))
  all_converted w =
      front_is w.fit
      ∙ ap (λ (k : ℕ). chunked (width_of f) k chunk before) w.all
      ∙ chunk_all (width_of f) chunk width (length s / 8) before (le_of_eq (right_lengths (width_of f) g (length s) (length before) w.fit).1)
      ∙ chunks_are (length s / 8) (le_of_eq refl)

  stops_at : Part → StopsAt f s before r.index after
  stops_at p =
      subst (λ (k : ℕ). StopsAt f s before k after) (sym p.index)
      (record {
        within = p.some;
        not_taken = ap (takes_of f) (sym (element_is bad p.some)) ∙ bad_fails (takes_of f) (floats s) nan (omega (arith, p.some, count s));
        first = λ i h. ap (takes_of f) (sym (element_is i (omega (arith, h, p.some)))) ∙ good_before (takes_of f) (floats s) i nan h;
        front = ap (take (width_of f * bad)) (front_is p.fit) ∙ take_at (chunks bad chunk) (drop (width_of f * bad) before) (width_of f * bad) (length_chunks (width_of f) chunk width bad) ∙ chunks_are bad (omega (arith, p.some));
        rest = ap (drop (width_of f * bad)) (front_is p.fit) ∙ drop_at (chunks bad chunk) (drop (width_of f * bad) before) (width_of f * bad) (length_chunks (width_of f) chunk width bad);
      })

  pub accepted_conversion : r.number ≡ 0 → Converted f s after
  accepted_conversion e = either ends (λ u. absurd (omega (arith, e, u.number))) (λ t. either t (λ w. record { taken = all_taken (takes_of f) (floats s) (w.all ∙ sym (count s)); bytes = all_converted w }) (λ p. absurd (omega (arith, e, p.number))))

  pub converted_or_kept : length after ≡ length before → ConvertedOrKept f g s before r after
  converted_or_kept size =
      record {
        told = numbered (then_of lengths elements) (ap (λ (z : Report). z.number) c.answer ∙ done_heard (length s / 8) (then_of lengths elements)) (then_listed lengths elements (lengths_listed (width_of f) g (length s) (length before)) (taken_listed f (floats s)));
        filled = λ e. either ends (λ u. absurd (omega (arith, e, u.number))) (λ t. either t all_converted (λ p. absurd (omega (arith, e, p.number))));
        kept = λ h k. either ends (λ u. u.left) (λ t. either t (λ w. absurd (h w.number)) (λ p. absurd (k p.number)));
        stopped = λ e. either ends (λ u. absurd (omega (arith, e, u.number))) (λ t. either t (λ w. absurd (omega (arith, e, w.number))) stops_at);
        size = size;
      }
