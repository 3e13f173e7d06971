-- `fmt_f32::small_pattern` meets its contract, path by path. Assumes nothing.
use mathlib.Core.Path.{sym, ap, ◌∙◌, subst}
use Prim.Native.Nat.{ℕ, ◌-◌}
use native.Mathlib.Omega.{arith}
use lib.Pow.{pow_pos, pow_mono}
use lib.Ieee.Nearest.{closest}
use Rattle.fmt_f32.specs.Sized.{Narrowed}
use Rattle.fmt_f32.proofs.SizedLaws.{field, digits, one_shifted, subnormal, none}
use Rattle.fmt_f32.proofs.narrow.small_pattern.Goals as goal

pub returns-then-field-lt873 : goal.returns-then-field-lt873
returns-then-field-lt873 c = none c.args.size (omega arith)

pub nearest-requires : goal.nearest-requires
nearest-requires c =
    let n = c.args.size in
    let j = 926 - field n in
    rw (one_shifted j (omega arith)) (pow_pos j, pow_mono {j = 53} (omega arith), omega arith)

pub returns : goal.returns
returns c =
    let n = c.args.size in
    let u = ap (λ (u : ℕ). closest (digits n) u) (one_shifted (926 - field n) (omega arith)) in
    subst (Narrowed n) (sym (c.nearest.ensures ∙ u)) (subnormal n (omega arith) (omega arith))
