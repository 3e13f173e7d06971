-- `promise_calls::written::write_as_read` meets its contract: what was read is written byte for byte. Assumes nothing.
use Rattle.wire.specs.Held.{below_all}
use Rattle.promise_written.specs.WrittenLaws.{writes_back}
use native.Mathlib.Omega.{arith}
use Rattle.promise_calls.proofs.written.write_as_read.Goals as goal

pub returns : goal.returns
returns c =
    let s = c.args.src.now in
    writes_back s (below_all 256 s (λ i h. omega (arith, c.shared_slice_known-1.given i))) c.pel_read_ticket-found.ensures c.pel_write_ticket-written.ensures
