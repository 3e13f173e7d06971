-- `ticket_design::numbers::spec_for` meets its contract. Assumes nothing.
use Rattle.ticket_design.proofs.numbers.spec_for.Goals as goal

pub returns : goal.returns
returns c = rw (c.float_of-cutoff.ensures, c.float_of-transition.ensures, c.float_of-attenuation.ensures)
