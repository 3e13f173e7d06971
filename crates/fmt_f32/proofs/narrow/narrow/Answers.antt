-- `fmt_f32::narrow` meets its contract: the pattern is read back. Assumes nothing.
use mathlib.Core.Path.{sym, ap, ◌∙◌}
use Prim.Native.Nat.{ℕ}
use lib.Ieee.{binary32, div, of_bits}
use Rattle.laws.specs.Tests.{fails, ne_self, is_nan_lem}
use Rattle.fmt_f32.specs.Single.{round_to}
use Rattle.fmt_f32.proofs.SingleLaws.{bits_back, bits_number}
use Rattle.fmt_f32.proofs.narrow.narrow.Goals as goal

pub returns-then-x : goal.returns-then-x
unfolding div of_bits round_to
returns-then-x c = rw (is_nan_lem c.args.x (sym (ne_self c.args.x) ∙ c.if-x.true))

pub float_from_bits-result : goal.float_from_bits-result
float_from_bits-result c =
    let x = c.args.x in
    rw c.pattern_of.ensures (bits_number binary32 x (fails (sym (ne_self x) ∙ c.if-x.false)))

pub returns : goal.returns
returns c = ap (λ (n : ℕ). of_bits binary32 n) c.pattern_of.ensures ∙ bits_back binary32 c.args.x
