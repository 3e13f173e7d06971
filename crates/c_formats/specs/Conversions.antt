-- A conversion of f64s, eight bytes each, to elements of another format, from bytes to bytes. Definitions only.
use Rattle.std.specs.Prelude.{ℕ, ◌-◌, ◌/◌, ◌%◌, ◌≡◌, List, cond, eqb, length, get_or, Float, Err, Result}
use Rattle.std.specs.Float.{nan}
use Rattle.laws.specs.Chunks.{chunked}
use Rattle.laws.specs.Prefix.{first_bad}
use Rattle.wire.specs.Bytes.{floats_in}
use Rattle.verdict.specs.declared.Refusal.TheVariants.{Length}
use Rattle.verdict.specs.declared.Report.{Report}
use Rattle.verdict.specs.Reports.{done_report}
use Rattle.verdict.specs.Converts.{taken_of, groups_of, then_of, left_of}
use Rattle.c_formats.specs.Format.{Format}
use Rattle.c_formats.specs.Formats.{width_of, takes_of, outside_of, bytes_in}
use Rattle.verdict.specs.declared.Refusal.{Refusal}

-- the f64s of a source of bytes
abbrev pub floats : List ℕ → List Float
floats s = floats_in (length s / 8) s

-- the lengths, from m bytes to len bytes in elements of w bytes, of which g belong together: one that isn't whole
-- elements is refused first, the source's before the destination's, in bytes; then as `groups_of`, in elements
unfoldable pub lengths_of : ℕ → ℕ → ℕ → ℕ → Result (Unit {0}) Refusal
lengths_of w g m len =
    cond (eqb (m % 8) 0)
    (cond (eqb (len % w) 0)
    (groups_of g (m / 8) (len / w))
    (Err (Length (len - len % w) len)))
    (Err (Length (m - m % 8) m))

-- the elements up to the first that isn't taken, the rest as it came
unfoldable pub stored_of : Format → List Float → List ℕ → List ℕ
stored_of f s d = chunked (width_of f) (first_bad (takes_of f) s) (λ i. bytes_in f (get_or s i nan)) d

-- where both lengths are right
pub record ConvertsWhole (f : Format) (s before : List ℕ) (r : Result (Unit {0}) Refusal) (after : List ℕ) : Type 0 where
  pub answer : r ≡ taken_of (takes_of f) (outside_of f) (floats s)
  pub buffer : after ≡ stored_of f (floats s) before

-- what the answer and the destination are afterwards
pub record ConvertsBytes (f : Format) (g : ℕ) (s before : List ℕ) (r : Report) (after : List ℕ) : Type 0 where
  pub answer : r ≡ done_report (length s / 8) (then_of (lengths_of (width_of f) g (length s) (length before)) (taken_of (takes_of f) (outside_of f) (floats s)))
  pub buffer : after ≡ left_of (lengths_of (width_of f) g (length s) (length before)) (stored_of f (floats s) before) before
