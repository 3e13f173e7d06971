-- `wire::number_in_four` meets its contract: the library's sum of bytes is the definition's. Assumes nothing.
use Rattle.std.proofs.Common.{ap, le_of_eq, arith, take_all}
use Rattle.wire.specs.Bytes.{number_of}
use Rattle.wire.specs.Read.{four}
use Rattle.wire.proofs.number_in_four.Goals as goal

pub returns : goal.returns
returns c =
    let bytes = c.args.bytes.now in
    let all = ap number_of (take_all 4 bytes (le_of_eq c.told-bytes)) in
    omega (arith, c.from_le_bytes.ensures, four bytes 0 (omega arith), all)
