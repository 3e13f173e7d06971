-- `c_windows::write::write_window` meets its contract: the code, the length, the judgement, and then the window. Assumes
-- nothing.
use Rattle.std.specs.Prelude.{Ok, Option, Result, Some}
use mathlib.Core.Path.{◌≡◌, sym, ◌∙◌}
use mathlib.Core.List.{List}
use Prim.Native.Nat.{ℕ, ◌/◌, ◌%◌}
use borrow.Author.Tests.{eq-eqb}
use lib.ListN.{length}
use lib.Ieee.{Float, of_int, of_bits}
use Rattle.laws.specs.Binary64.{whole}
use Rattle.laws.specs.Chunks.{chunks}
use Rattle.verdict.specs.declared.Refusal.{Refusal}
use Rattle.verdict.specs.declared.Report.{Report}
use Rattle.verdict.specs.Report.{accepted_of}
use Rattle.wire.specs.Writes.{Writes}
use Rattle.wire.proofs.WritesLaws.{fills}
use Rattle.win_sampled.specs.Shapes.{norm_of, divisor_of, sample_at, judgement_of, window_at}
use Rattle.win_sampled.specs.declared.shape.Shape.{Shape}
use Rattle.win_sampled.specs.declared.shape.Symmetry.{Symmetry}
use Rattle.c_windows.specs.declared.sample.Sample.{Sample}
use Rattle.c_windows.specs.Samples.{width_of, sample_bytes, window_bytes}
use Rattle.c_windows.proofs.write.write_window.Goals as goal

-- w the width of a sample; i0 and d are the definition's
window_written : (s : Sample) (shape : Shape) {coded : Option Symmetry} {before : List ℕ} {r : Report} {symmetry : Symmetry} (known : coded ≡ Some symmetry) {w : ℕ} (e : w ≡ width_of s) (all : length before % w ≡ 0) {judged : Result (Unit {0}) Refusal} (by : judged ≡ judgement_of shape symmetry (length before / w)) {i0 : Float} {d : ℕ} {after : List ℕ} → judged ≡ Ok tt → i0 ≡ norm_of shape → d ≡ divisor_of symmetry (length before / w) → r ≡ accepted_of (length before / w) (whole 0) → after ≡ chunks (length before / width_of s) (λ i. sample_bytes s (sample_at shape i0 d i)) → Writes (sample_bytes s) (window_bytes s shape coded (length before)) before r after
window_written s shape {before = before} {symmetry = symmetry} known {w} e all by t n m told put =
    fills {tap = window_at shape symmetry (length before / w)} (rw (known, ← e, eq-eqb (length before % w) 0 all, ← by, t)) told (put ∙ rw (← e, n, m))

pub returns : goal.returns
unfolding of_int of_bits
returns c =
    window_written c.args.sample c.args.shape (sym c.symmetry_of.ensures ∙ c.in-Some.is) c.width-wide.ensures c.if-len-wide-ne0.false c.judge.ensures
    c.in_default-judge.is c.norm.ensures c.divisor.ensures c.accepted.ensures c.put_samples.ensures
