-- `ticket_card::card::check` meets its contract, a record at a time. Assumes nothing.
use Prim.Native.Nat.{◌-◌}
use lib.ListN.{length}
use Rattle.ticket_card.specs.CardsLaws.{Reached}
use Rattle.ticket_card.proofs.card.check.Given as goal

abbrev pub invariant-loop-at : goal.invariant-loop-at
invariant-loop-at l = Reached l.src l.at l.tickets

abbrev pub decreases-loop-at : goal.decreases-loop-at
decreases-loop-at l = length l.src - l.at
