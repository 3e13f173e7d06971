-- A number of 16 bits, widened to 64 and moved up by 32768 so that it isn't negative: what the machine holds of it.
-- Assumes nothing.
use mathlib.Core.Path.{◌≡◌, refl, sym, ap, ◌∙◌, subst}
use mathlib.Core.Bool.{Bool, cond}
use Prim.Native.Nat.{ℕ, suc, ◌+◌, ◌-◌, ◌%◌, ◌^◌, ◌<◌}
use native.Mathlib.Nat.{lt_of_lt_of_le}
use native.Mathlib.Omega.{arith}
use borrow.Author.Tests.{le-ltb}
use lib.Dec.{lit≤}
use lib.IntN.{ℤ, pos, negsuc, ◌+ℤ◌}
use mir.Syntax.{w16, w64}
use mir.Val.{SFits, to_z, of_z}
use mir.ValLaws.{to_z-of_z}
use Rattle.wire.specs.Bytes.{twos_of}

-- z in 64 bits
abbrev pub widened : ℤ → ℤ
widened z = to_z w64 (of_z w64 (to_z w16 (of_z w16 z)))

abbrev pub moved : ℤ → ℤ
moved z = widened z +ℤ pos 32768

pub record Moved (z : ℤ) : Type 0 where
  pub holds : SFits w64 (to_z w16 (of_z w16 z))
  pub at : ℕ
  pub is : moved z ≡ pos at
  pub small : at < 65536
  pub bits : (at + 32768) % 65536 ≡ twos_of z

up : (z : ℤ) → SFits w16 z → (k : ℕ) × (z +ℤ pos 32768 ≡ pos k) × (k < 65536) × ((k + 32768) % 65536 ≡ twos_of z)
up (pos n) s = (n + 32768, refl, omega (arith, s.sfits), low n s.sfits)
  where
    low : (n : ℕ) → n < 2 ^ 15 → (n + 32768 + 32768) % 65536 ≡ n
    low n h = omega arith
up (negsuc n) s = (32768 - suc n, ap (λ (b : Bool). cond b (negsuc (suc n - suc 32768)) (pos (32768 - suc n))) (le-ltb 32768 (suc n) s.sfits), omega arith, high n s.sfits)
  where
    high : (n : ℕ) → n < 2 ^ 15 → (32768 - suc n + 32768) % 65536 ≡ 65535 - n
    high n h = omega arith

pub moved_is : (z : ℤ) → SFits w16 z → Moved z
moved_is z s =
    let a : to_z w16 (of_z w16 z) ≡ z = to_z-of_z w16 z s in
    let w : SFits w64 z = record { sfits = lt_of_lt_of_le s.sfits (lit≤ tt) } in
    let b : widened z ≡ z = ap (λ (y : ℤ). to_z w64 (of_z w64 y)) a ∙ to_z-of_z w64 z w in
    let u = up z s in
    record {
      holds = subst (SFits w64) (sym a) w;
      at = u.0;
      is = ap (λ (y : ℤ). y +ℤ pos 32768) b ∙ u.1;
      small = u.2;
      bits = u.3;
    }

-- and back in 64 bits
pub back_is : (z : ℤ) (m : Moved z) → to_z w64 (of_z w64 (moved z)) ≡ pos m.at
back_is z m = ap (λ (y : ℤ). to_z w64 (of_z w64 y)) m.is ∙ to_z-of_z w64 (pos m.at) (record { sfits = lt_of_lt_of_le m.small (lit≤ tt) })
