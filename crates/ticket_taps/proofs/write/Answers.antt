-- `ticket_taps::write` meets its contract, a design and a refusal. Assumes nothing.
use Rattle.std.proofs.Common.{ap}
use Rattle.fir_design.specs.Designs.{outcome_of}
use Rattle.wire.proofs.WritesLaws.{leaves, fills_room}
use Rattle.ticket_taps.proofs.write.Goals as goal

pub returns-in-Ok : goal.returns-in-Ok
returns-in-Ok g c fit =
    let kind = g.D.Design in
    fills_room (ap (outcome_of kind.count kind.divisor kind.tap) c.in-Ok.is) (rw (c.count.ensures, c.divisor.ensures) at c.accepted.ensures) fit.room (c.put_taps.ensures (fit.raws c.in-Ok.design c.in-Ok.is))

pub returns-in-Err : goal.returns-in-Err
returns-in-Err g c fit =
    let kind = g.D.Design in
    leaves (ap (outcome_of kind.count kind.divisor kind.tap) c.in-Err.is) c.from.ensures
