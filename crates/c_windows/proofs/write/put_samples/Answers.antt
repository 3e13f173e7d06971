-- `c_windows::write::put_samples` meets its contract. The loop keeps the samples so far at the front of the buffer, and
-- the arguments of the next two. Assumes nothing.
use mathlib.Core.Path.{◌≡◌, refl, ap, ◌∙◌}
use mathlib.Core.List.{List}
use Prim.Native.Nat.{ℕ, ◌+◌, ◌*◌, ◌/◌, ◌^◌, ◌%◌, ◌<◌, ◌≤◌}
use native.Mathlib.Omega.{arith}
use lib.ListN.{length}
use lib.Ieee.{Float}
use Rattle.win_sampled.specs.declared.shape.Shape.{Shape}
use Rattle.win_shapes.specs.Steps.{argument_of}
use Rattle.win_sampled.specs.Shapes.{sample_at}
use Rattle.win_sampled.specs.SampleLaws.{three_steps, place_at, value_at, curve_of}
use Rattle.wire.specs.Bytes.{put_of}
use Rattle.wire.specs.WrittenPrefix.{at_first, one_more, at_end}
use Rattle.laws.specs.Chunks.{chunks}
use Rattle.c_windows.specs.declared.sample.Sample.{Sample}
use Rattle.c_windows.specs.Samples.{width_of, pattern_of, sample_bytes}
use Rattle.c_windows.proofs.RoomLaws.{some_width, half, room, full}
use Rattle.c_windows.proofs.write.put_samples.Invariants.{Filling}
use Rattle.c_windows.proofs.write.put_samples.Goals as goal

-- sample i by its argument
sampled : (shape : Shape) (i0 : Float) (d i : ℕ) {x v : Float} → x ≡ argument_of (curve_of shape) (place_at shape d i) → v ≡ value_at shape i0 d x → v ≡ sample_at shape i0 d i
sampled shape i0 d i e f = f ∙ ap (λ (x : Float). value_at shape i0 d x) e ∙ three_steps shape i0 d i

module _ {s : Sample} {x : ℕ → Float} {before : List ℕ} where
  fill_start : Filling s x before before 0
  fill_start = record { within = omega arith; prefix = at_first (width_of s) (Unit {0}) (λ k. pattern_of s (x k)) before }

  -- one sample more, and all of them; w is the width as the code has it
  module _ {now : List ℕ} {i : ℕ} (f : Filling s x before now i) {w : ℕ} (e : w ≡ width_of s) where
    fill_next : {v : Float} {after : List ℕ} → i < length before / w → v ≡ x i → after ≡ put_of (width_of s) now (w * i) (pattern_of s v) → Filling s x before after (i + 1)
    fill_next {v} l is put =
        let more : i + 1 ≤ length before / width_of s = omega (arith, rw e at l) in
        record {
          within = more;
          prefix = one_more f.prefix (room (width_of s) (length before) (i + 1) more) (λ u. ap (pattern_of s) is) (put ∙ ap (λ (k : ℕ). put_of (width_of s) now (k * i) (pattern_of s v)) e);
        }

    fill_done : length before % width_of s ≡ 0 → length before / w ≤ i → now ≡ chunks (length before / width_of s) (λ k. sample_bytes s (x k))
    fill_done whole l =
        let end : i ≡ length before / width_of s = omega (arith, f.within, rw e at l) in
        at_end f.prefix (rw end (full (width_of s) (length before) whole)) tt ∙ ap (λ (k : ℕ). chunks k (λ j. sample_bytes s (x j))) end

pub nonzero_div-n : goal.nonzero_div-n
nonzero_div-n c = some_width c.args.sample c.width-wide.ensures

pub loop-i-init : goal.loop-i-init
loop-i-init c =
    let a = c.args in (
      fill_start,
      c.arguments_of-begun.ensures.first ∙ ap (λ (p : Float). argument_of (curve_of a.shape) p) c.place_at.ensures,
      c.arguments_of-begun.ensures.second ∙ ap (λ (p : Float). argument_of (curve_of a.shape) p) c.place_at-2.ensures,
    )

pub overflow_add-i : goal.overflow_add-i
overflow_add-i c =
    let next_fit : c.loop-i.i + 3 < 2 ^ 64 = omega (arith, half c.args.sample (length c.args.out.now) refl, c.loop-i.invariant.0.within) in
    omega (arith, next_fit)

pub overflow_add-i-in-loop-i : goal.overflow_add-i-in-loop-i
overflow_add-i-in-loop-i c =
    let next_fit : c.loop-i.i + 3 < 2 ^ 64 = omega (arith, half c.args.sample (length c.args.out.now) refl, c.loop-i.invariant.0.within) in
    omega (arith, next_fit)

pub overflow_add-i-in-loop-i-2 : goal.overflow_add-i-in-loop-i-2
overflow_add-i-in-loop-i-2 c =
    let next_fit : c.loop-i.i + 3 < 2 ^ 64 = omega (arith, half c.args.sample (length c.args.out.now) refl, c.loop-i.invariant.0.within) in
    omega (arith, next_fit)

pub overflow_mul-wide : goal.overflow_mul-wide
overflow_mul-wide c =
    let room_fits : (k : ℕ) → k ≤ length c.args.out.now / c.width-wide.result → c.width-wide.result * k < 2 ^ 64 = λ k l. omega (arith, room c.width-wide.result (length c.args.out.now) k l) in
    omega (arith, room_fits c.loop-i.i (omega arith))

pub overflow_add-i-in-loop-i-3 : goal.overflow_add-i-in-loop-i-3
overflow_add-i-in-loop-i-3 c =
    let next_fit : c.loop-i.i + 3 < 2 ^ 64 = omega (arith, half c.args.sample (length c.args.out.now) refl, c.loop-i.invariant.0.within) in
    omega (arith, next_fit)

pub overflow_mul-wide-in-loop-i : goal.overflow_mul-wide-in-loop-i
overflow_mul-wide-in-loop-i c =
    let room_fits : (k : ℕ) → k ≤ length c.args.out.now / c.width-wide.result → c.width-wide.result * k < 2 ^ 64 = λ k l. omega (arith, room c.width-wide.result (length c.args.out.now) k l) in
    omega (arith, room_fits (c.loop-i.i + 1) (omega arith))

pub overflow_add-i-in-loop-i-4 : goal.overflow_add-i-in-loop-i-4
overflow_add-i-in-loop-i-4 c =
    let next_fit : c.loop-i.i + 3 < 2 ^ 64 = omega (arith, half c.args.sample (length c.args.out.now) refl, c.loop-i.invariant.0.within) in
    omega (arith, next_fit)

pub loop-i-preserved : goal.loop-i-preserved
loop-i-preserved c =
    let wide : c.width-wide.result ≡ width_of c.args.sample = c.width-wide.ensures in
    let a = c.args in
    let i = c.loop-i.i in
    let l = c.loop-i-test.true in
    let two : i + 2 ≡ i + 1 + 1 = omega arith in
    let three : i + 3 ≡ i + 2 + 1 = omega arith in
    let one = fill_next c.loop-i.invariant.0 wide (omega arith) (sampled a.shape a.i0 a.d i c.loop-i.invariant.1 c.values_at-two.ensures.first) c.store.ensures in
    let both = fill_next one wide (omega arith) (sampled a.shape a.i0 a.d (i + 1) c.loop-i.invariant.2 c.values_at-two.ensures.second) c.store-in-loop-i.ensures in (
      rw two both,
      c.arguments_of-next.ensures.first ∙ ap (λ (p : Float). argument_of (curve_of a.shape) p) c.place_at-in-loop-i.ensures,
      c.arguments_of-next.ensures.second ∙ ap (λ (p : Float). argument_of (curve_of a.shape) p) (c.place_at-in-loop-i-2.ensures ∙ ap (λ (k : ℕ). place_at a.shape a.d k) three),
    )

pub overflow_mul-wide-then-i-n : goal.overflow_mul-wide-then-i-n
overflow_mul-wide-then-i-n c =
    let room_fits : (k : ℕ) → k ≤ length c.args.out.now / c.width-wide.result → c.width-wide.result * k < 2 ^ 64 = λ k l. omega (arith, room c.width-wide.result (length c.args.out.now) k l) in
    omega (arith, room_fits c.loop-i.i (omega arith))

pub shape_of-out-then-i-n : goal.shape_of-out-then-i-n
shape_of-out-then-i-n c =
    let wide : c.width-wide.result ≡ width_of c.args.sample = c.width-wide.ensures in
    let last : (let a = c.args in Filling a.sample (sample_at a.shape a.i0 a.d) a.out.now c.store-then-i-n.new.out (c.loop-i.i + 1)) = let a = c.args in
    fill_next c.loop-i.invariant.0 wide (omega arith) (sampled a.shape a.i0 a.d c.loop-i.i c.loop-i.invariant.1 c.value_at.ensures) c.store-then-i-n.ensures in
    last.prefix.size

pub returns-then-i-n : goal.returns-then-i-n
returns-then-i-n c =
    let wide : c.width-wide.result ≡ width_of c.args.sample = c.width-wide.ensures in
    let last : (let a = c.args in Filling a.sample (sample_at a.shape a.i0 a.d) a.out.now c.store-then-i-n.new.out (c.loop-i.i + 1)) = let a = c.args in
    fill_next c.loop-i.invariant.0 wide (omega arith) (sampled a.shape a.i0 a.d c.loop-i.i c.loop-i.invariant.1 c.value_at.ensures) c.store-then-i-n.ensures in
    fill_done last wide c.requires (omega arith)

pub shape_of-out-else-i-n : goal.shape_of-out-else-i-n
shape_of-out-else-i-n c = c.loop-i.invariant.0.prefix.size

pub returns-else-i-n : goal.returns-else-i-n
returns-else-i-n c =
    let wide : c.width-wide.result ≡ width_of c.args.sample = c.width-wide.ensures in
    fill_done c.loop-i.invariant.0 wide c.requires (omega arith)
