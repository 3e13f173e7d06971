-- `ticket_card::fields::numbers_in` meets its contract where a kind has five fields. Assumes nothing.
use Rattle.std.proofs.Common.{rules, arith, ◌≡◌}
use borrow.Author.Rules.{part_to_end}
use Rattle.ticket_kinds.specs.Kinds.{kind_number, field_count}
use Rattle.ticket_card.specs.Places.{word_at, numbers_are}
use Rattle.ticket_card.proofs.fields.numbers_in.Goals as goal

pub returns-in-Lowpass : goal.returns-in-Lowpass
unfolding field_count
returns-in-Lowpass c =
    let d = c.args.src.now in
    let n = field_count (kind_number c.args.kind) in
    let five : n ≡ 5 = search rules in
    let front = simp part_to_end at c.as_chunks.ensures.front in
    rw c.from.ensures (
    numbers_are n d (kind_number c.args.kind)
    (word_at n 0 d _ front c.number_in.ensures c.requires (omega (arith, five)))
    (word_at n 1 d _ front c.number_in-2.ensures c.requires (omega (arith, five)))
    (word_at n 2 d _ front c.number_in-in-Lowpass.ensures c.requires (omega (arith, five)))
    (word_at n 3 d _ front c.number_in-in-Lowpass-2.ensures c.requires (omega (arith, five)))
    (word_at n 4 d _ front c.number_in-in-Lowpass-3.ensures c.requires (omega (arith, five)))
    )
