use Rattle.std.proofs.Common.{◌≡◌, ◌≤◌, ◌+◌, ◌*◌}
use Rattle.arrayvec.specs.ArrayVec.{array_vec_len}
use Rattle.replay_lines.proofs.offered.buffer.Given as goal

-- so many elements stand in the buffer, and it has room for them
abbrev pub invariant-loop-element : goal.invariant-loop-element
invariant-loop-element l = (array_vec_len l.bytes ≡ l.element-index * l.width) × (array_vec_len l.bytes ≤ 264)

-- so many marks stand behind them
abbrev pub invariant-loop : goal.invariant-loop
invariant-loop l = (array_vec_len l.bytes ≡ array_vec_len l.initial.bytes + l.counter) × (array_vec_len l.bytes ≤ 264)
