use Rattle.std.proofs.Common.{◌≤◌}
use Rattle.replay_lines.proofs.source.for_each_line.Given as goal

-- the next line starts at no byte that is still to come
abbrev pub invariant-loop-at : goal.invariant-loop-at
invariant-loop-at g l = l.from ≤ l.at
