-- `replay_lines::line::read_word` meets its contract: after i digits the rest of them make what all of them do, and the
-- value is below 16 ^ i. Assumes nothing.
use Rattle.std.proofs.Common.{◌≡◌, ◌+◌, ◌-◌, ◌^◌, ◌<◌}
use Rattle.replay_lines.specs.Words.{digits_at}
use Rattle.replay_lines.proofs.line.read_word.Given as goal

abbrev pub invariant-loop-digit : goal.invariant-loop-digit
invariant-loop-digit l =
    let i = l.digit-index in
    (l.value < 16 ^ i) × (digits_at (16 - i) l.text (1 + i) l.value ≡ digits_at 16 l.text 1 0)
