-- `c_cosines::load::number_at` meets its contract. Assumes nothing.
use Rattle.std.specs.Prelude.{List, [], ℕ, ◌/◌, ◌<◌}
use Rattle.std.proofs.Common.{ap, ◌∙◌, arith, length, get_or}
use lib.Ieee.{binary64, of_bits, of_int}
use Rattle.laws.specs.Binary64.{whole}
use Rattle.wire.specs.Bytes.{float_of}
use Rattle.wire.specs.Read.{chunk_in}
use Rattle.c_cosines.specs.LoadsLaws.{given, not_given}
use Rattle.c_cosines.proofs.load.number_at.Goals as goal

pub returns-in-Some : goal.returns-in-Some
returns-in-Some c =
    let s = c.args.src.now in
    let i = c.args.i in
    let within : i < length s / 8 = omega (arith, c.in-Some.ensures.lookup, c.as_chunks.ensures.front_len) in
    let bytes = c.in-Some.ensures.lookup.4 (omega arith) [] ∙ ap (λ (l : List (List ℕ)). get_or l i []) c.as_chunks.ensures.front ∙ chunk_in 8 (length s / 8) i s [] within in
    c.float_of.ensures ∙ ap (of_bits binary64) c.number_in.ensures ∙ ap float_of bytes ∙ given s i (whole 0) within

pub returns-in-None : goal.returns-in-None
unfolding of_bits of_int
returns-in-None c = not_given c.args.src.now c.args.i (whole 0) (omega (arith, c.in-None.ensures.lookup.3, c.as_chunks.ensures.front_len))
