-- `promise_calls::written::read_as_written` meets its contract: what is written reads back. Assumes nothing.
use Rattle.promise_written.specs.Fits.{numbers_fit}
use Rattle.promise_written.specs.Written.{numbers}
use Rattle.promise_written.specs.WrittenLaws.{reads_back, read_as}
use native.Mathlib.Omega.{arith}
use Rattle.promise_calls.proofs.written.read_as_written.Goals as goal

pub returns : goal.returns
returns c =
    let a = c.args in
    let n = numbers a.kind a.first a.second a.third a.fourth a.fifth in
    let b = numbers_fit n (omega (arith, c.ranges.first)) (omega (arith, c.ranges.second)) (omega (arith, c.ranges.third)) (omega (arith, c.ranges.fourth)) (omega (arith, c.ranges.fifth)) in
    record { read_as = read_as n c.pel_write_ticket-written.ensures b c.pel_read_ticket-found.ensures; reads_back = reads_back n c.pel_write_ticket-written.ensures b }
