-- `wire::put_i16` meets its contract. Assumes nothing.
use mathlib.Core.Path.{◌≡◌, ap, ◌∙◌}
use Prim.Native.Nat.{ℕ}
use mir.Syntax.{w16}
use mir.Val.{to_z, of_z}
use mir.ValLaws.{to_z-of_z}
use Rattle.wire.specs.Bytes.{twos_of, put_of}
use Rattle.wire.proofs.put_i16.Goals as goal

pub returns : goal.returns
returns c =
    let a = c.args in
    let q : to_z w16 (of_z w16 a.q) ≡ a.q = to_z-of_z w16 a.q (record { sfits = c.well_formed.1.1.0 }) in
    c.put.ensures ∙ ap (λ (n : ℕ). put_of 2 a.out.now a.at n) (c.bits_of-n.ensures ∙ ap twos_of q)
