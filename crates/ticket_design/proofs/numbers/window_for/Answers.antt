-- `ticket_design::numbers::window_for` meets its contract, a window at a time. Assumes nothing.
use Rattle.ticket_design.proofs.numbers.window_for.Goals as goal

pub returns-in-Kaiser : goal.returns-in-Kaiser
returns-in-Kaiser c = rw (c.in-Kaiser.is, c.float_of-x.ensures)

pub returns-in-Loaded : goal.returns-in-Loaded
returns-in-Loaded c = rw c.in-Loaded.is
