-- A window for a buffer of bytes, each sample an f32 or a Q15 number. Definitions only.
use Rattle.std.specs.Prelude.{ℕ, ◌/◌, List, Float, None, Option, Some}
use Rattle.std.specs.Float.{binary32}
use Rattle.std.specs.Float.Ieee.{to_bits}
use Rattle.laws.specs.Binary64.{whole}
use Rattle.wire.specs.Bytes.{bytes_of, twos_of}
use Rattle.wire.specs.Writes.{whole_elements}
use Rattle.verdict.specs.declared.Refusal.TheVariants.{Plain}
use Rattle.verdict.specs.Outcome.{Outcome, where_passed}
use Rattle.fmt_q15.specs.Q15.{q15_of}
use Rattle.fmt_f32.specs.Single.{single_of}
use Rattle.win_sampled.specs.Shapes.{judgement_of, window_at}
use Rattle.win_sampled.specs.declared.shape.Shape.{Shape}
use Rattle.c_windows.specs.declared.sample.Sample.{Sample}
use Rattle.c_windows.specs.declared.sample.Sample.TheVariants.{Single, Q15}
use Rattle.win_sampled.specs.declared.shape.Symmetry.{Symmetry}
use Rattle.verdict.specs.declared.Reason.TheVariants as Reason

-- ---- one sample
unfoldable pub width_of : Sample → ℕ
width_of Single = 4
width_of Q15 = 2

-- saturated as a Q15 number, with no limit and a NaN as 0
unfoldable pub pattern_of : Sample → Float → ℕ
pattern_of Single x = to_bits binary32 (single_of x)
pattern_of Q15 x = twos_of (q15_of x)

abbrev pub sample_bytes : Sample → Float → List ℕ
sample_bytes s x = bytes_of (width_of s) (pattern_of s x)

-- ---- a buffer of len bytes, which holds whole samples
abbrev pub window_bytes : Sample → Shape → Option Symmetry → ℕ → Outcome
window_bytes s shape (Some symmetry) len =
    let n = len / width_of s in
    whole_elements (width_of s) len (where_passed (judgement_of shape symmetry n) (Outcome.Designed n (whole 0) (window_at shape symmetry n)))
window_bytes s shape None len = Outcome.Refused (Plain Reason.Code)
