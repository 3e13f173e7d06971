-- `fir_cache::keep` meets its contract: a store past the end changes nothing. Assumes nothing.
use mathlib.Core.Path.{sym}
use lib.Seq.{set_out}
use Rattle.fir_cache.proofs.keep.Goals as goal

pub returns-else-k-raws : goal.returns-else-k-raws
returns-else-k-raws c = sym (set_out c.args.raws.now c.args.i c.args.v c.if-k-raws.false)
