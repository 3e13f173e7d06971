-- `c_formats::convert::put_singles` meets its contract. The loop's invariant is that of `put_elements`. Assumes
-- nothing.
use Rattle.std.specs.Prelude.{Ok}
use mathlib.Core.Path.{sym, ap, ◌∙◌}
use Prim.Native.Nat.{◌/◌, ◌<◌}
use native.Mathlib.Omega.{arith}
use lib.ListN.{length}
use Rattle.c_formats.specs.Format.{Format}
use Rattle.c_formats.specs.Formats.{width_of, pattern_of}
use Rattle.c_formats.specs.FormatLaws.{encoded_single}
use Rattle.c_formats.specs.ConversionLaws.{at_first, at_end, one_more}
use Rattle.c_formats.proofs.Elements.{read}
use Rattle.c_formats.proofs.convert.put_singles.Goals as goal

pub loop-i-init : goal.loop-i-init
loop-i-init c = let a = c.args in (omega arith, at_first Format.Single a.src.now a.out.now)

pub put_four-requires : goal.put_four-requires
unfolding width_of
put_four-requires c =
    let within : c.loop-i.i < length c.args.src.now / 8 = omega (arith, c.loop-i-test.true, c.as_chunks.ensures.front_len) in
    omega (arith, within, c.loop-i.invariant.1.prefix.size, c.requires.room)

pub loop-i-preserved : goal.loop-i-preserved
unfolding width_of pattern_of
loop-i-preserved c =
    let within : c.loop-i.i < length c.args.src.now / 8 = omega (arith, c.loop-i-test.true, c.as_chunks.ensures.front_len) in
    let told = ap Ok c.pattern_of_bits-pattern.ensures ∙ encoded_single c.loop-i.i _ in
    let outcome = read Format.Single c.args.src.now _ c.as_chunks.ensures.front c.number_in.ensures within told in
    (omega arith, one_more c.loop-i.invariant.1 c.requires.room within (sym outcome) c.put_four.ensures)

pub shape_of-out : goal.shape_of-out
shape_of-out c = c.loop-i.invariant.1.prefix.size

pub returns : goal.returns
returns c = at_end c.loop-i.invariant.1 (omega (arith, c.as_chunks.ensures.front_len))
