-- `c_sections::write::write_numbers` meets its contract. The loop's invariant: the first i numbers stand in the buffer, and
-- the rest is as it came. Assumes nothing.
use mathlib.Core.Path.{◌≡◌, refl, ap, ◌∙◌}
use Prim.Native.Nat.{ℕ}
use native.Mathlib.Omega.{arith}
use lib.ListN.{length, get_or}
use lib.Ieee.{binary64, nan, of_bits, of_int, to_bits}
use Rattle.laws.specs.Chunks.{chunks}
use Rattle.wire.specs.Laws.{put_none, put_more, put_length, put_all}
use Rattle.wire.specs.Bytes.{float_bytes}
use Rattle.wire.proofs.WritesLaws.{fills}
use Rattle.c_sections.proofs.write.write_numbers.Goals as goal

pub loop-i-init : goal.loop-i-init
loop-i-init c =
    let bits : ℕ → ℕ = λ k. to_bits binary64 (get_or c.args.numbers.now k nan) in
    (omega arith, put_none 8 bits c.args.out.now)

pub loop-i-preserved : goal.loop-i-preserved
loop-i-preserved c =
    let bits : ℕ → ℕ = λ k. to_bits binary64 (get_or c.args.numbers.now k nan) in
    (omega arith, cc (put_more 8 bits c.loop-i.i c.args.out.now (omega arith)))

pub shape_of-out : goal.shape_of-out
shape_of-out c =
    let bits : ℕ → ℕ = λ k. to_bits binary64 (get_or c.args.numbers.now k nan) in
    ap length c.loop-i.invariant.1 ∙ put_length 8 bits c.loop-i.i c.args.out.now (omega arith)

pub returns : goal.returns
unfolding of_int of_bits
returns c =
    let bits : ℕ → ℕ = λ k. to_bits binary64 (get_or c.args.numbers.now k nan) in
    let a = c.args in
    let n : c.loop-i.i ≡ length a.numbers.now = omega arith in
    fills refl c.accepted.ensures
    (c.loop-i.invariant.1 ∙ put_all 8 bits c.loop-i.i a.out.now (omega arith) ∙ ap (λ (k : ℕ). chunks k (λ j. float_bytes (get_or a.numbers.now j nan))) n)
