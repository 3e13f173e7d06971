-- `fir_lowpass::lowpass::takes_count` meets its contract. Assumes nothing.
use mathlib.Core.Path.{sym}
use borrow.Author.Tests.{lt-ltb, le-ltb}
use Rattle.fir_lowpass.specs.Lowpass.{count_taken}
use Rattle.fir_lowpass.proofs.lowpass.takes_count.Goals as goal

pub returns-then-n-gt0 : goal.returns-then-n-gt0
unfolding count_taken
returns-then-n-gt0 c = sym (rw (lt-ltb 0 c.args.n c.if-n-gt0.true))

pub returns-else-n-gt0 : goal.returns-else-n-gt0
unfolding count_taken
returns-else-n-gt0 c = sym (rw (le-ltb 0 c.args.n c.if-n-gt0.false))
