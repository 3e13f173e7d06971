-- `fir_channelizer::takes_branch` meets its contract. Assumes nothing.
use Rattle.std.proofs.Common.{sym, le-leb}
use borrow.Author.Tests.{lt-leb}
use Rattle.fir_channelizer.specs.Channelizer.{branch_taken}
use Rattle.fir_channelizer.proofs.takes_branch.Goals as goal

pub returns-then-branch-ge4 : goal.returns-then-branch-ge4
unfolding branch_taken
returns-then-branch-ge4 c = sym (rw (le-leb 4 c.args.branch c.if-branch-ge4.true))

pub returns-else-branch-ge4 : goal.returns-else-branch-ge4
unfolding branch_taken
returns-else-branch-ge4 c = sym (rw (lt-leb 4 c.args.branch c.if-branch-ge4.false))
