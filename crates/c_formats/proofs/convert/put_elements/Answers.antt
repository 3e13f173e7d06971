-- `c_formats::convert::put_elements` meets its contract. The loop's invariant: the elements so far are taken, and their
-- bytes stand at the front. Assumes nothing.
use Rattle.std.specs.Prelude.{Err}
use Rattle.std.proofs.Common.{rules}
use mathlib.Core.Path.{◌≡◌, sym, ap, ◌∙◌}
use Prim.Native.Nat.{ℕ, ◌*◌, ◌/◌, ◌<◌}
use native.Mathlib.Nat.{mul-le-mul_left, mul-suc}
use native.Mathlib.Omega.{arith}
use lib.ListN.{length}
use Rattle.wire.specs.Bytes.{put_of}
use Rattle.c_formats.specs.Formats.{width_of}
use Rattle.c_formats.specs.ConversionLaws.{at_first, at_end, one_more, one_refused}
use Rattle.c_formats.proofs.Elements.{read}
use Rattle.c_formats.proofs.convert.put_elements.Goals as goal

pub loop-i-init : goal.loop-i-init
loop-i-init g c = let a = c.args in (omega arith, at_first g.E.Element.format a.src.now a.out.now)

pub overflow_mul-wide : goal.overflow_mul-wide
overflow_mul-wide g c =
    let a = c.args in
    let i = c.loop-i.i in
    let place = ap (λ (w : ℕ). w * i) c.width-wide.ensures in
    let most = mul-le-mul_left (width_of g.E.Element.format) c.loop-i.invariant.0 in
    omega (arith, place, most)

pub store-requires : goal.store-requires
store-requires g c =
    let same_as : length c.loop-i.out ≡ length c.args.out.now = c.loop-i.invariant.1.prefix.size in
    let w = width_of g.E.Element.format in
    let i = c.loop-i.i in
    let place = ap (λ (w : ℕ). w * i) c.width-wide.ensures in
    let within : c.loop-i.i < length c.args.src.now / 8 = omega (arith, c.loop-i-test.true, c.as_chunks.ensures.front_len) in
    let most = mul-le-mul_left w within in
    omega (arith, place, most, mul-suc w i, same_as, c.requires.room)

pub returns-in_err-pattern : goal.returns-in_err-pattern
returns-in_err-pattern g c =
    let refused : c.from_residual.result ≡ Err c.in_err-pattern.field-0.0 = search rules in
    let within : c.loop-i.i < length c.args.src.now / 8 = omega (arith, c.loop-i-test.true, c.as_chunks.ensures.front_len) in
    let outcome = read g.E.Element.format c.args.src.now _ c.as_chunks.ensures.front c.number_in-bits.ensures within c.encode.ensures in
    rw refused (one_refused c.loop-i.invariant.1 c.requires.room within (sym outcome ∙ c.in_err-pattern.was))

pub loop-i-preserved : goal.loop-i-preserved
loop-i-preserved g c =
    let within : c.loop-i.i < length c.args.src.now / 8 = omega (arith, c.loop-i-test.true, c.as_chunks.ensures.front_len) in
    let outcome = read g.E.Element.format c.args.src.now _ c.as_chunks.ensures.front c.number_in-bits.ensures within c.encode.ensures in
    let stored = c.store.ensures ∙ ap (λ (w : ℕ). put_of (width_of g.E.Element.format) c.loop-i.out (w * c.loop-i.i) c.in_ok-pattern.pattern) c.width-wide.ensures in
    (omega arith, one_more c.loop-i.invariant.1 c.requires.room within (sym outcome ∙ c.in_ok-pattern.was) stored)

pub shape_of-out : goal.shape_of-out
shape_of-out g c =
    let same_as : length c.loop-i.out ≡ length c.args.out.now = c.loop-i.invariant.1.prefix.size in
    same_as

pub returns : goal.returns
returns g c = at_end c.loop-i.invariant.1 (omega (arith, c.as_chunks.ensures.front_len))
