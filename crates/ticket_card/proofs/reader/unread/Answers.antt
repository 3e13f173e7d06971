-- `ticket_card::reader::unread` meets its contract. Assumes nothing.
use Rattle.std.proofs.Common.{rules}
use Rattle.ticket_card.specs.Readings.{read_there}
use Rattle.ticket_card.proofs.reader.unread.Goals as goal

pub slice_bounds-result-count : goal.slice_bounds-result-count
slice_bounds-result-count c = read_there c.args.src.now c.in-Ok.found.ticket c.in-Ok.found.taken (search rules)

pub slice_bounds-result-start : goal.slice_bounds-result-start
slice_bounds-result-start c = read_there c.args.src.now c.in-Ok.found.ticket c.in-Ok.found.taken (search rules)
