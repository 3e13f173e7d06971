-- `replay_lines::pattern::agrees` meets its contract: a pattern is a NaN's where its float is one. Assumes nothing.
use Rattle.std.proofs.Common.{sym, ◌∙◌, ap}
use lib.Ieee.{binary64, is_nan}
use lib.Ieee.Bits.{nan_bits_is}
use Rattle.replay_lines.specs.Agrees.{agrees_of}
use Rattle.replay_lines.proofs.pattern.agrees.Goals as goal

pub returns-then-is_nan : goal.returns-then-is_nan
unfolding agrees_of
returns-then-is_nan c =
    rw (sym c.is_nan.ensures.value ∙ c.if-is_nan.true) (c.is_nan-then-is_nan.ensures.value ∙ ap is_nan c.float_of.ensures ∙ sym (nan_bits_is binary64 c.args.b))
