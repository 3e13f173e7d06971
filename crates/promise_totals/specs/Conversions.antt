-- Bytes and lists are one conversion: what `pel_to_q15` answers and leaves in a destination of bytes is what `to_q15`
-- answers and leaves in the list that those bytes are, refusals and what stands before them included. The same of every
-- format. Assumes nothing.
use Rattle.std.specs.Prelude.{◌≡◌, true, List, ℕ, ◌*◌, ◌/◌, ◌%◌, ◌≤◌, get_or, ℤ, pos, Float, Err, Ok, Result}
use Rattle.std.proofs.Math.Path.{refl, ap}
use Rattle.std.proofs.Common.{sym, ◌∙◌, arith, eq-eqb}
use Rattle.std.proofs.Math.Nat.{mul-mod_right, mul-div_right}
use Rattle.std.proofs.Math.ListN.{length}
use Rattle.std.specs.Float.Ieee.{nan, binary32, to_bits}
use Rattle.laws.specs.Chunks.{chunks, chunked, length_chunks, chunk_over}
use Rattle.laws.specs.Filled.{tabulate, filled, fill_all, length_filled, get_d_front, get_d_filled}
use Rattle.laws.specs.Prefix.{first_bad, bad_le, bad_none}
use Rattle.wire.specs.Bytes.{twos_of, code_bytes, single_bytes}
use Rattle.wire.specs.Laws.{length_bytes}
use Rattle.verdict.specs.declared.Report.{Report}
use Rattle.verdict.specs.Reports.{done_report}
use Rattle.verdict.specs.Converts.{taken_of, groups_of, then_of, left_of, Converts}
use Rattle.verdict.specs.ConvertsLaws.{right_count}
use Rattle.fmt_q15.specs.Q15 as Q15
use Rattle.fmt_q14.specs.Q14 as Q14
use Rattle.fmt_f32.specs.Single.{single_of, any_outside}
use Rattle.c_formats.specs.Format.{Format}
use Rattle.c_formats.specs.Formats.{width_of, takes_of, pattern_of, outside_of, bytes_in}
use Rattle.c_formats.specs.FormatLaws.{wide}
use Rattle.c_formats.specs.Conversions.{floats, lengths_of, stored_of, ConvertsBytes}
use Rattle.c_formats.specs.ConversionLaws.{whole_elements, count}
use Rattle.verdict.specs.declared.Refusal.{Refusal}

-- a list in bytes, z being any element
abbrev pub in_bytes : {A : Type 0} → (A → List ℕ) → A → List A → List ℕ
in_bytes bytes z l = chunks (length l) (λ i. bytes (get_or l i z))

-- ---- a format whose elements are of the type A, each with its bytes
module _ {A : Type 0} (f : Format) (item : Float → A) (bytes : A → List ℕ) (z : A) (width : (a : A) → length (bytes a) ≡ width_of f) (same : (x : Float) → bytes_in f x ≡ bytes (item x)) where
  -- whole elements in bytes have the lengths of the lists
  lengths : (g m : ℕ) (d : List A) → m % 8 ≡ 0 → lengths_of (width_of f) g m (length (in_bytes bytes z d)) ≡ groups_of g (m / 8) (length d)
  lengths g m d h =
      let w = width_of f in
      let e = length_chunks w (λ i. bytes (get_or d i z)) (λ i. width (get_or d i z)) (length d) in
      ap (lengths_of w g m) e ∙ whole_elements w g m (w * length d) h (mul-mod_right w (length d)) ∙ ap (groups_of g (m / 8)) (mul-div_right (length d) (wide f))

  -- the first k elements written anew
  written : (k : ℕ) (s : List Float) (d : List A) → k ≤ length d → chunked (width_of f) k (λ i. bytes_in f (get_or s i nan)) (in_bytes bytes z d) ≡ in_bytes bytes z (filled k (λ i. item (get_or s i nan)) d)
  written k s d h =
      let l = filled k (λ i. item (get_or s i nan)) d in
      chunk_over (width_of f) (λ i. bytes (get_or d i z)) (λ i. width (get_or d i z)) (λ i. bytes_in f (get_or s i nan)) (λ i. bytes (get_or l i z)) k (length d) h
      (λ i b. same (get_or s i nan) ∙ ap bytes (sym (get_d_front k (λ i. item (get_or s i nan)) _ i z b)))
      (λ i b. ap bytes (sym (get_d_filled k (λ i. item (get_or s i nan)) d i z h b)))
      ∙ ap (λ (n : ℕ). chunks n (λ i. bytes (get_or l i z))) (sym (length_filled k (λ i. item (get_or s i nan)) d h))

  -- "Converts" of the floats that the source's bytes are, and "ConvertsBytes" of those bytes
  pub in_bytes_lem : (g : ℕ) (s : List ℕ) (d l : List A) (v : Result (Unit {0}) Refusal) (r : Report) (after : List ℕ) → length s % 8 ≡ 0 → ConvertsBytes f g s (in_bytes bytes z d) r after → Converts g (takes_of f) (outside_of f) item (floats s) d v l → (r ≡ done_report (length s / 8) v) × (after ≡ in_bytes bytes z l)
  unfolding stored_of
  in_bytes_lem g s d l v r after h b c =
      let n = length s / 8 in
      let G = groups_of g (length (floats s)) (length d) in
      let e = lengths g (length s) d h ∙ ap (λ (k : ℕ). groups_of g k (length d)) (sym (count s)) in
      let fits : G ≡ Ok tt → first_bad (takes_of f) (floats s) ≤ length d = λ done. omega (arith, bad_le (takes_of f) (floats s), right_count g (length (floats s)) (length d) done) in (
        b.answer ∙ ap (λ (c : Result (Unit {0}) Refusal). done_report n (then_of c (taken_of (takes_of f) (outside_of f) (floats s)))) e ∙ ap (done_report n) (sym c.answer),
        b.buffer ∙ ap (λ (c : Result (Unit {0}) Refusal). left_of c (stored_of f (floats s) (in_bytes bytes z d)) (in_bytes bytes z d)) e ∙ go G fits ∙ ap (in_bytes bytes z) (sym c.buffer),
      )
    where
      go : (c : Result (Unit {0}) Refusal) → (c ≡ Ok tt → first_bad (takes_of f) (floats s) ≤ length d) → left_of c (stored_of f (floats s) (in_bytes bytes z d)) (in_bytes bytes z d) ≡ in_bytes bytes z (left_of c (filled (first_bad (takes_of f) (floats s)) (λ i. item (get_or (floats s) i nan)) d) d)
      go (Ok tt) k = written (first_bad (takes_of f) (floats s)) (floats s) d (k refl)
      go (Err why) k = refl

-- ---- each export and its function on lists: the first premise is what the one ensures, the second what the other does
module _ (s : List ℕ) (h : length s % 8 ≡ 0) {v : Result (Unit {0}) Refusal} {r : Report} {after : List ℕ} where
  module _ (d l : List ℤ) where
    pub to_q15_bytes : ConvertsBytes Format.Q15 1 s (in_bytes code_bytes (pos 0) d) r after → Converts 1 Q15.takes Q15.outside Q15.q15_of (floats s) d v l → (r ≡ done_report (length s / 8) v) × (after ≡ in_bytes code_bytes (pos 0) l)
    unfolding width_of takes_of outside_of pattern_of
    to_q15_bytes b c = in_bytes_lem Format.Q15 Q15.q15_of code_bytes (pos 0) (λ q. length_bytes 2 (twos_of q)) (λ x. refl) 1 s d l v r after h b c

    pub to_q14_bytes : ConvertsBytes Format.Q14 5 s (in_bytes code_bytes (pos 0) d) r after → Converts 5 Q14.takes Q14.outside Q14.q14_of (floats s) d v l → (r ≡ done_report (length s / 8) v) × (after ≡ in_bytes code_bytes (pos 0) l)
    unfolding width_of takes_of outside_of pattern_of
    to_q14_bytes b c = in_bytes_lem Format.Q14 Q14.q14_of code_bytes (pos 0) (λ q. length_bytes 2 (twos_of q)) (λ x. refl) 5 s d l v r after h b c

  -- `to_f32` with the group 1, `to_f32_sos` with 5
  pub to_f32_bytes : (g : ℕ) (d l : List Float) → ConvertsBytes Format.Single g s (in_bytes single_bytes nan d) r after → Converts g (λ x. true) any_outside single_of (floats s) d v l → (r ≡ done_report (length s / 8) v) × (after ≡ in_bytes single_bytes nan l)
  unfolding width_of takes_of outside_of pattern_of
  to_f32_bytes g d l b c = in_bytes_lem Format.Single single_of single_bytes nan (λ x. length_bytes 4 (to_bits binary32 x)) (λ x. refl) g s d l v r after h b c

-- ---- to f32 no element is refused: the lengths alone tell the answer, and where they are right all is converted
pub all_singles : {g : ℕ} {s before after : List Float} {r : Result (Unit {0}) Refusal} → Converts g (λ x. true) any_outside single_of s before r after → (r ≡ groups_of g (length s) (length before)) × (after ≡ left_of (groups_of g (length s) (length before)) (tabulate (length s) (λ i. single_of (get_or s i nan))) before)
unfolding taken_of
all_singles {g} {s} {before} c = let t = go (groups_of g (length s) (length before)) (right_count g (length s) (length before)) in (c.answer ∙ t.0, c.buffer ∙ t.1)
  where
    go : (v : Result (Unit {0}) Refusal) → (v ≡ Ok tt → length s ≡ length before) → (then_of v (taken_of (λ x. true) any_outside s) ≡ v) × (left_of v (filled (first_bad (λ x. true) s) (λ i. single_of (get_or s i nan)) before) before ≡ left_of v (tabulate (length s) (λ i. single_of (get_or s i nan))) before)
    go (Ok tt) h = (rw (bad_none s, eq-eqb (length s) (length s)), rw (bad_none s) (fill_all (length s) _ before (omega (arith, h refl))))
    go (Err why) h = (refl, refl)
