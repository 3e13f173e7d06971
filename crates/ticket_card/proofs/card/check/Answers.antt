-- `ticket_card::card::check` meets its contract, a record at a time. Assumes nothing.
use Rattle.std.proofs.Common.{rules, arith, refl, drop}
use borrow.Author.Rules.{part_to_end}
use Rattle.ticket_card.specs.Readings.{read_some}
use Rattle.ticket_card.specs.CardsLaws.{one_more, broken, whole}
use Rattle.ticket_card.proofs.card.check.Goals as goal

pub overflow_add-at : goal.overflow_add-at
overflow_add-at c = let r = one_more c.loop-at.invariant c.in-Ok.found (search (rules, part_to_end)) in record { fits = omega (arith, r.inside) }

pub loop-at-smaller : goal.loop-at-smaller
loop-at-smaller c =
    let r = one_more c.loop-at.invariant c.in-Ok.found (search (rules, part_to_end)) in
    let f = read_some (drop c.loop-at.at c.args.src.now) c.in-Ok.found.ticket c.in-Ok.found.taken (search (rules, part_to_end)) in
    omega (arith, r.inside, f)

pub loop-at-preserved : goal.loop-at-preserved
loop-at-preserved c = one_more c.loop-at.invariant c.in-Ok.found (search (rules, part_to_end))

pub returns-in-Err : goal.returns-in-Err
returns-in-Err c = broken c.loop-at.invariant _ refl refl refl (search rules) (search (rules, part_to_end))

pub returns : goal.returns
returns c = whole c.loop-at.invariant _ refl refl refl (search rules)
